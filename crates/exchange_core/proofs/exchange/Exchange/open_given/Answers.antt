use Rattle.std.proofs.Common.{length, subst}
use Rattle.exchange_core.specs.Covered.{TakesCredit}
use Rattle.exchange_core.proofs.Media.{opening_takes}
use Rattle.exchange_core.proofs.exchange.Exchange.open_given.Goals as goal

pub returns-in-Ok-clause-media : goal.returns-in-Ok-clause-media
returns-in-Ok-clause-media g c =
    let len = length c.args.given.now.datagram in
    let signals = c.open_in-answer.new.onwards.signals in
    subst (λ old. TakesCredit len old.credit c.open_in-answer.new.pass.credit signals) c.lend-onwards.ensures.same
    (opening_takes c.deref_mut.result.now.state c.unwrap-lease.result c.opening_in-frame.result.now c.args.given.now.now
    c.unwrap-challenge.result.now len
    c.lend-onwards.new.self.credit c.open_in-answer.new.pass.credit signals
    c.in-Ok.ensures.state.signals c.in-Ok.ensures.state.credit)
