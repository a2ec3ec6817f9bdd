-- The lines that `check` and `replay` print.
use Rattle.std.specs.Prelude.{ℕ, List, [], ◌++◌, Option, codes, decimal, length}
use Rattle.call_signals.specs.declared.stage.Stage.{Stage}
use Rattle.exchange_commands.specs.declared.replaying.ReplayError.{ReplayError}
use Rattle.exchange_commands.specs.declared.replaying.ReplayError.TheVariants as errors
use Rattle.exchange_core.specs.declared.answers.Retired.{Retired}
use Rattle.exchange_core.specs.PrintedNames.{stage_text}
use Rattle.hex.specs.Hex.{encode_lower}
use Rattle.peer_plan.specs.Errors.{error_text}
use Rattle.peer_plan.specs.Plan.{PlanView, counts_of, total_of}
use Rattle.seq_window.specs.History.{acked_count, sent_count, taken_count}

-- a valid plan: its peers, its routes and its local call numbers
abbrev pub plan_line : PlanView → List ℕ
plan_line plan =
    codes "ok " ++ (decimal (length plan.peers) ++ (codes " " ++ (decimal (length plan.routes) ++ (codes " "
    ++ (decimal (total_of (counts_of plan.peers)) ++ codes "\n")))))

-- a refusal, by its name
abbrev pub refused_line : List ℕ → List ℕ
refused_line name = codes "refused " ++ (name ++ codes "\n")

-- why a replay ended before its script; nothing if the output can't be written
abbrev pub outcome_line : ReplayError → List ℕ
outcome_line (errors.Plan fault) = refused_line (error_text fault)
outcome_line (errors.Script line) = refused_line (codes "Script " ++ decimal line)
outcome_line errors.Memory = refused_line (codes "Memory")
outcome_line errors.Writer = []

-- a datagram to a peer: two digits for each octet
abbrev pub datagram_line : List ℕ → List ℕ → List ℕ
datagram_line peer octets = codes "tx " ++ (peer ++ (codes " " ++ (encode_lower octets ++ codes "\n")))

-- an ended leg: its number, and the full frames of its record that were sent, acknowledged and accepted
abbrev pub retired_line : Retired → List ℕ
retired_line leg =
    codes "retired " ++ (decimal leg.name.number ++ (codes " " ++ (decimal (sent_count leg.history.entries) ++ (codes " "
    ++ (decimal (acked_count leg.history.entries) ++ (codes " "
    ++ (decimal (taken_count leg.history.entries) ++ codes "\n")))))))

-- the stage of a local call number
abbrev pub stage_line : ℕ → Option Stage → List ℕ
stage_line number stage = codes "leg " ++ (decimal number ++ (codes " " ++ (stage_text stage ++ codes "\n")))
