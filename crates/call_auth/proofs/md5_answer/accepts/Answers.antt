use Rattle.call_auth.proofs.Digits.{map-lower-encode}
use Rattle.call_auth.proofs.md5_answer.accepts.Goals as goal

pub returns : goal.returns
returns c = rw map-lower-encode at (rw c.answer.ensures at c.eq_ignore_ascii_case.ensures.test)
