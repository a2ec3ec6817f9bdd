-- The cause of a leg's end, by the frame that ends it ("Information Elements", "Control Frames").
use Rattle.std.specs.Prelude.{ℕ, List, [], ◌∷◌, ◌==◌, Option, None, Some, if◌then◌else◌}
use Rattle.iax_frames.specs.FullFrame.{FullFrame, subclass_meaning}
use Rattle.info_elements.specs.Numbers.{CAUSECODE}
use Rattle.call_signals.specs.Cause.{cause_of_code}
use Rattle.call_signals.specs.Codes.{CONTROL_BUSY, CONTROL_CONGESTION}
use Rattle.call_signals.specs.FrameElements.{element_in}
use Rattle.call_signals.specs.declared.cause.Cause.{Cause}
use Rattle.call_signals.specs.declared.cause.Cause.TheVariants.{NormalClearing, UserBusy, NoUserResponding, Congestion}
use Rattle.call_signals.specs.declared.failure.Failure.{Failure}
use Rattle.call_signals.specs.declared.failure.Failure.TheVariants.{RetriesSpent, RecordFull, ChallengeTimeout, Inval}
use Rattle.call_signals.specs.declared.message.Message.{Message}
use Rattle.call_signals.specs.declared.message.Message.TheVariants.{Hangup, Reject, ClearsCall}

-- by the value of a CAUSECODE, if it has one octet
abbrev pub told_cause : Option (List ℕ) → Cause
told_cause (Some (code ∷ [])) = cause_of_code code
told_cause _ = NormalClearing

-- by the subclass of a control frame that ends the call: BUSY, CONGESTION, HANGUP
abbrev pub clearing_cause : Option ℕ → Cause
clearing_cause (Some subclass) =
    if subclass == CONTROL_BUSY then UserBusy else if subclass == CONTROL_CONGESTION then Congestion else NormalClearing
clearing_cause None = NormalClearing

abbrev pub ending_cause : FullFrame → Message → Cause
ending_cause frame Hangup = told_cause (element_in frame CAUSECODE)
ending_cause frame Reject = told_cause (element_in frame CAUSECODE)
ending_cause frame ClearsCall = clearing_cause (subclass_meaning frame.head.subclass)
ending_cause frame message = NormalClearing

-- the cause of a failed leg's end
abbrev pub failure_cause : Failure → Cause
failure_cause RetriesSpent = NoUserResponding
failure_cause RecordFull = NormalClearing
failure_cause ChallengeTimeout = NormalClearing
failure_cause Inval = NormalClearing
