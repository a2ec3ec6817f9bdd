-- The reason why a call wasn't answered, as text of a column.
use Rattle.std.specs.Prelude.{◌-◌, ◌&&◌, ◌==◌, not, is_none, nat_lt, Bool, ℕ, List, [], Option, None, Some, codes, if◌then◌else◌}
use Rattle.call_signals.specs.declared.failure.Failure.{Failure}
use Rattle.call_signals.specs.declared.moments.Moments.{Moments}
use Rattle.call_records.specs.Rows.{end_cause, failure_text}
use Rattle.call_records.specs.declared.call_end.CallEnd.{CallEnd}
use Rattle.call_records.specs.declared.call_end.Ending.{Ending}
use Rattle.call_records.specs.declared.call_end.Ending.TheVariants.{HungUpHere, HungUpByPeer, RejectedHere, RejectedByPeer}
use Rattle.call_records.specs.declared.call_row.CallRow.{CallRow}

-- the milliseconds from the answer to the end, by the exchange's clock
abbrev pub bill_between : Option ℕ → Option ℕ → Option ℕ
bill_between (Some answered) (Some over) = Some (over - answered)
bill_between answered over = None

abbrev pub bill_ms : Moments → Option ℕ
bill_ms moments = bill_between moments.answered moments.over

-- The exchange rejects a call after its NEW was accepted, with a cause of Q.850. No route leads to the number, it has
-- octets that no number has, the called peer has no free number, or it has none of the formats.
abbrev pub routing_reason : Option ℕ → List ℕ
routing_reason None = []
routing_reason (Some cause) =
    if cause == 1 then codes "no_route" else if cause == 28 then codes "bad_number" else if cause == 34 then codes "no_number"
    else if cause == 21 then codes "no_common_format" else []

-- It rejects a call whose NEW it didn't accept: the answer to its challenge was wrong, or the NEW had no format of the
-- peer.
abbrev pub refused_reason : Bool → List ℕ
refused_reason challenged = if challenged then codes "wrong_secret" else codes "no_common_format"

-- the peer challenged the exchange and got no answer
abbrev pub is_unanswered : CallRow → Bool
is_unanswered row = nat_lt 0 row.leg.challenges_taken && not row.authenticated && is_none row.moments.accepted

abbrev pub ended_reason : CallRow → Ending → List ℕ
ended_reason row HungUpHere = if is_unanswered row then codes "no_secret" else []
ended_reason row HungUpByPeer = []
ended_reason row RejectedHere =
    if is_none row.moments.offered then refused_reason row.challenged else routing_reason (end_cause row.leg.end)
ended_reason row RejectedByPeer = codes "rejected_by_peer"

-- by the frame that ended the call, otherwise by what ended the leg
abbrev pub reason_by : CallRow → Option CallEnd → List ℕ
reason_by row None = failure_text row.failure
reason_by row (Some end) = ended_reason row end.how

abbrev pub reason_text : CallRow → List ℕ
reason_text row = reason_by row row.leg.end
