-- The text of a row: its columns, as a record of CSV (RFC 4180).
use Rattle.std.specs.Prelude.{ℕ, List, [], ◌∷◌, Option, None, Some, codes, decimal, option_map, unwrap_or}
use Rattle.std.specs.List.{flat_map}
use Rattle.std.specs.Str.Lossy.{utf8_lossy}
use Rattle.plain_text.specs.Printable.{printable_octet}
use Rattle.call_signals.specs.declared.failure.Failure.{Failure}
use Rattle.call_signals.specs.declared.failure.Failure.TheVariants.{RetriesSpent, RecordFull, ChallengeTimeout, Inval}
use Rattle.call_records.specs.declared.side.Side.{Side}
use Rattle.call_records.specs.declared.side.Side.TheVariants.{Peer, Exchange}
use Rattle.call_records.specs.declared.leg_moment.LegMoment.{LegMoment}
use Rattle.call_records.specs.declared.call_end.Ending.{Ending}
use Rattle.call_records.specs.declared.call_end.Ending.TheVariants.{HungUpHere, HungUpByPeer, RejectedHere, RejectedByPeer}
use Rattle.call_records.specs.declared.call_end.CallEnd.{CallEnd}

-- ---- the text of a column

abbrev pub side_text : Side → List ℕ
side_text Peer = codes "peer"
side_text Exchange = codes "exchange"

abbrev pub how_text : Ending → List ℕ
how_text HungUpHere = codes "hung_up_here"
how_text HungUpByPeer = codes "hung_up_by_peer"
how_text RejectedHere = codes "rejected_here"
how_text RejectedByPeer = codes "rejected_by_peer"

-- the failure that ended the leg; empty if none did
abbrev pub failure_text : Option Failure → List ℕ
failure_text None = []
failure_text (Some RetriesSpent) = codes "retries_spent"
failure_text (Some RecordFull) = codes "record_full"
failure_text (Some ChallengeTimeout) = codes "challenge_timeout"
failure_text (Some Inval) = codes "inval"

-- a text, empty if there is none
abbrev pub or_nothing : Option (List ℕ) → List ℕ
or_nothing text = unwrap_or text []

-- a number in decimal digits, empty if there is none
abbrev pub number_text : Option ℕ → List ℕ
number_text n = or_nothing (option_map decimal n)

-- a number's octets as printable characters
abbrev pub printable_text : List ℕ → List ℕ
printable_text octets = utf8_lossy (flat_map printable_octet octets)

-- a telephone number, of any octets, empty if there is none
abbrev pub telephone_text : Option (List ℕ) → List ℕ
telephone_text number = or_nothing (option_map printable_text number)

-- two columns: milliseconds, and the side whose clock measured them
abbrev pub moment_columns : Option LegMoment → List (List ℕ)
moment_columns None = [] ∷ [] ∷ []
moment_columns (Some moment) = decimal moment.ms ∷ side_text moment.clock ∷ []

-- the end of the leg: by the frame that ended the call, otherwise by the failure that ended the leg
abbrev pub ending_text : Option CallEnd → Option Failure → List ℕ
ending_text (Some end) failure = how_text end.how
ending_text None None = codes "unknown"
ending_text None failure = failure_text failure

abbrev pub end_moment : Option CallEnd → Option LegMoment
end_moment end = option_map (λ e. e.at) end

abbrev pub end_cause : Option CallEnd → Option ℕ
end_cause None = None
end_cause (Some end) = end.cause
