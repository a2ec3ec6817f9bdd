-- The signal that is handed up after a check of the peer's octet credit ("Mini Frames", "Meta Frames").
use Rattle.std.specs.Prelude.{ℕ, ◌+◌, nat_le, Option, None, Some, if◌then◌else◌}
use Rattle.leg_machine.specs.Signal.{span_len}
use Rattle.call_signals.specs.declared.signal.Signal.{Signal}
use Rattle.call_signals.specs.declared.signal.Signal.TheVariants.{Media}

-- the signal handed up, and the octets of credit that it takes
pub record Granted : Type 0 where
  pub signal : Option Signal
  pub octets : ℕ

-- media is accepted if the peer has credit for all of it
abbrev pub granted_media : ℕ → ℕ → Signal → ℕ → Granted
granted_media first accepted signal octets =
    if nat_le (accepted + octets) first
    then record { signal = Some signal; octets = octets }
    else record { signal = None; octets = 0 }

abbrev pub granted : ℕ → ℕ → Option Signal → Granted
granted first accepted (Some (Media span)) = granted_media first accepted (Media span) (span_len span)
granted first accepted signal = record { signal = signal; octets = 0 }
