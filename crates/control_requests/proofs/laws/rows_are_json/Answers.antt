use Rattle.std.proofs.Common.{ℕ, List, [], ◌∷◌, ap}
use Rattle.serde_json.proofs.OnLiterals.{serde_json_on_literals}
use Rattle.control_requests.proofs.RowLemmas.{one_more, items_before}
use Rattle.control_requests.proofs.laws.rows_are_json.Goals as goal

pub returns-clause-one_more : goal.returns-clause-one_more
returns-clause-one_more c = one_more

pub returns-clause-peers : goal.returns-clause-peers
unfolding serde_json_on_literals
returns-clause-peers c rows = ap (λ (text : List ℕ). 123 ∷ 34 ∷ 112 ∷ 101 ∷ 101 ∷ 114 ∷ 115 ∷ 34 ∷ 58 ∷ 91 ∷ text)
    (items_before rows (125 ∷ []))

pub returns-clause-calls : goal.returns-clause-calls
unfolding serde_json_on_literals
returns-clause-calls c rows = ap (λ (text : List ℕ). 123 ∷ 34 ∷ 99 ∷ 97 ∷ 108 ∷ 108 ∷ 115 ∷ 34 ∷ 58 ∷ 91 ∷ text)
    (items_before rows (125 ∷ []))
