use Rattle.std.proofs.Common.{sym}
use Rattle.step_log.proofs.Noting.{noted_as}
use Rattle.step_log.proofs.noted_book.NotedBook.release.Goals as goal

pub returns-clause-noted : goal.returns-clause-noted
returns-clause-noted g c = rw (sym c.pass.view_is, sym c.name-name.ensures, sym c.noted_answer.ensures)
    (noted_as c.pass.inside.credits c.push.ensures.begun c.push.ensures.items)
