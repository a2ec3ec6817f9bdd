-- The signals that a leg hands up.
use Rattle.std.specs.Prelude.{ℕ, ◌-◌, List, codes}
use Rattle.call_signals.specs.declared.signal.Indication.{Indication}
use Rattle.call_signals.specs.declared.signal.Indication.TheVariants.{Ringing, Progress, Proceeding}
use Rattle.call_signals.specs.declared.signal.MediaSpan.{MediaSpan}

-- "Control Frames"
abbrev pub indication_name : Indication → List ℕ
indication_name Ringing = codes "RINGING"
indication_name Progress = codes "PROGRESS"
indication_name Proceeding = codes "PROCEEDING"

-- the number of a datagram's octets that are media
abbrev pub span_len : MediaSpan → ℕ
span_len span = span.end - span.start
