use Rattle.std.proofs.Common.{◌≡◌, Err, refl}
use Rattle.peer_lock.specs.declared.errors.PeerError.TheVariants.{NeedsNumber}
use Rattle.exchange_core.specs.Newcomers.{SpellsOpening}
use Rattle.exchange_core.proofs.Newcomers.{due_opening, needs_opening}
use Rattle.exchange_core.proofs.exchange.Exchange.datagram_given.Goals as goal

pub returns-in-Err-clause-answer : goal.returns-in-Err-clause-answer
returns-in-Err-clause-answer g c =
    let state = c.deref_mut.result.now.state in
    let needs : c.in-Err.error ≡ NeedsNumber → SpellsOpening c.args.given.now.datagram =
    needs_opening g.J.LedgerSet.first_steps state.accounts.steps c.args.given.now.datagram state c.args.given.now.now
    (Err c.in-Err.error) c.in-Err.ensures.state.refused in
    (refl, due_opening c.args.given.now.datagram c.in-Err.error needs, tt)
