use Rattle.exchange_core.proofs.Starting.{starts_with}
use Rattle.exchange_core.proofs.opening.book_of.Goals as goal

pub returns-clause-start : goal.returns-clause-start
returns-clause-start c = starts_with c.args.plan.now c.args.first_serial c.counts.result.now c.new.result c.counts.ensures.value
    c.new.ensures.fresh c.new.ensures.sound
