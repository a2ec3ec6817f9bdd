-- The columns of a row, in order.
use Rattle.std.specs.Prelude.{ℕ, List, [], ◌∷◌, ◌++◌, Some, codes, option_map}
use Rattle.peer_plan.specs.FormatNames.{format_name}
use Rattle.call_records.specs.Courses.{talk_ms}
use Rattle.call_records.specs.Rows.{side_text, failure_text, or_nothing, number_text, telephone_text, moment_columns}
use Rattle.call_records.specs.Rows.{ending_text, end_moment, end_cause}
use Rattle.call_records.specs.Reasons.{bill_ms, reason_text}
use Rattle.call_records.specs.declared.call_row.CallRow.{CallRow}
use Rattle.call_records.specs.declared.call_row.RowTexts.{RowTexts}

-- which call, and which leg of it
abbrev pub name_columns : CallRow → List ℕ → List (List ℕ)
name_columns row peer =
    number_text (Some row.call) ∷ peer ∷ number_text (Some row.name.number) ∷ number_text (Some row.name.serial)
    ∷ number_text (option_map (λ p. p.number) row.partner) ∷ number_text (option_map (λ p. p.serial) row.partner) ∷ []

-- the caller and the called number
abbrev pub party_columns : CallRow → List (List ℕ)
party_columns row =
    or_nothing (option_map side_text row.leg.opened_by) ∷ telephone_text row.leg.calling ∷ telephone_text row.leg.called
    ∷ format_name row.format ∷ []

-- the moments at which the leg was opened and taken out
abbrev pub time_columns : CallRow → List ℕ → List ℕ → List (List ℕ)
time_columns row opened ended = opened ∷ number_text (Some row.opened) ∷ ended ∷ number_text (Some row.ended) ∷ []

-- when its call was accepted, was answered and ended
abbrev pub moments_columns : CallRow → List (List ℕ)
moments_columns row =
    moment_columns row.leg.accepted ++ (moment_columns row.leg.answered ++ (moment_columns (end_moment row.leg.end)
    ++ (number_text (talk_ms row.leg.answered row.leg.end) ∷ [])))

-- the end of the call
abbrev pub ending_columns : CallRow → List (List ℕ)
ending_columns row =
    ending_text row.leg.end row.failure ∷ number_text (end_cause row.leg.end)
    ∷ failure_text row.failure ∷ []

-- the counts of its frames
abbrev pub count_columns : CallRow → List (List ℕ)
count_columns row =
    number_text (Some row.leg.sent) ∷ number_text (Some row.leg.acknowledged) ∷ number_text (Some row.leg.taken)
    ∷ number_text (Some row.resent) ∷ number_text (Some row.leg.digits_taken) ∷ number_text (Some row.leg.digits_sent) ∷ []

-- the call's moments by the exchange's clock, and the reason why it wasn't answered
abbrev pub outcome_columns : CallRow → List (List ℕ)
outcome_columns row =
    number_text row.moments.accepted ∷ number_text row.moments.answered ∷ number_text row.moments.over
    ∷ number_text (bill_ms row.moments) ∷ reason_text row ∷ []

abbrev pub row_columns : CallRow → RowTexts → List (List ℕ)
row_columns row texts =
    name_columns row texts.peer.now ++ (party_columns row ++ (time_columns row texts.opened.now texts.ended.now
    ++ (moments_columns row ++ (ending_columns row ++ (count_columns row ++ outcome_columns row)))))

-- their names
abbrev pub column_names : List (List ℕ)
column_names =
    codes "call" ∷ codes "peer" ∷ codes "number" ∷ codes "serial" ∷ codes "partner_number" ∷ codes "partner_serial"
    ∷ codes "opened_by" ∷ codes "calling" ∷ codes "called" ∷ codes "format"
    ∷ codes "opened" ∷ codes "opened_ms" ∷ codes "ended" ∷ codes "ended_ms"
    ∷ codes "accepted_ms" ∷ codes "accepted_clock" ∷ codes "answered_ms" ∷ codes "answered_clock" ∷ codes "end_ms"
    ∷ codes "end_clock" ∷ codes "talk_ms"
    ∷ codes "ending" ∷ codes "cause" ∷ codes "failure"
    ∷ codes "sent" ∷ codes "acknowledged" ∷ codes "taken" ∷ codes "resent" ∷ codes "digits_taken" ∷ codes "digits_sent"
    ∷ codes "accepted_at_ms" ∷ codes "answered_at_ms" ∷ codes "over_at_ms" ∷ codes "bill_ms" ∷ codes "reason" ∷ []
