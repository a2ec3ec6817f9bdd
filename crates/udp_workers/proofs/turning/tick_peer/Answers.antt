use Rattle.std.specs.Prelude.{All}
use Rattle.std.proofs.Common.{subst}
use Rattle.exchange_core.specs.Leaving.{departure_of}
use Rattle.exchange_core.specs.declared.answers.Retired.{Retired}
use Rattle.udp_workers.proofs.HandingLaws.{leave_gives}
use Rattle.udp_workers.proofs.turning.tick_peer.Goals as goal

pub returns-clause-handed : goal.returns-clause-handed
returns-clause-handed g c =
    let given = g.V.Watch.given c.args.tally.now.watch.now in
    let each = subst (All (λ (leg : Retired). given (departure_of leg))) c.deref.ensures.value c.observe_retired.ensures.given in
    leave_gives given c.args.turn.now.time c.args.pass.now c.tick-answer.new.pass c.tick-answer.result.retired.items
    c.tick-answer.ensures.retired each
