-- Which notes share a part of each file.
use Rattle.std.specs.Prelude.{Bool, true, false}
use Rattle.trace_writer.specs.declared.mark.Input.{Input}
use Rattle.trace_writer.specs.declared.mark.Input.TheVariants as input

-- The exchange refused the datagram and is as if it had never come, so a replay without it is the same.
abbrev pub is_refused : Input → Bool
is_refused (input.Stranger from) = true
is_refused (input.TurnedAway peer challenge) = true
is_refused (input.Refused peer challenge) = true
is_refused _ = false
