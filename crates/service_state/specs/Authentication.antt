-- How the authentication of a leg's call failed (RFC 5456, "Authentication").
use Rattle.std.specs.Prelude.{◌≡◌, ℕ, List, codes, Option, None, Some, true}
use Rattle.call_records.specs.declared.call_end.CallEnd.{CallEnd}
use Rattle.call_records.specs.declared.call_end.Ending.TheVariants as endings
use Rattle.call_records.specs.declared.call_row.CallRow.{CallRow}
use Rattle.service_state.specs.declared.authentication.AuthFailure.{AuthFailure}
use Rattle.service_state.specs.declared.authentication.AuthFailure.TheVariants.{WrongAnswer, NoAnswer}

-- the leg was challenged, and the exchange rejected its call before it was offered: the answer was wrong
pub record WasAnsweredWrongly (leg : CallRow) : Type 0 where
  pub challenged : leg.challenged ≡ true
  pub unoffered : leg.moments.offered ≡ None
  pub end : CallEnd
  pub ended : leg.leg.end ≡ Some end
  pub rejected : end.how ≡ endings.RejectedHere

-- the name of a failure in metrics
abbrev pub auth_failure_text : AuthFailure → List ℕ
auth_failure_text WrongAnswer = codes "WrongAnswer"
auth_failure_text NoAnswer = codes "NoAnswer"
