use Rattle.std.proofs.Common.{refl, sym}
use Rattle.step_log.proofs.Noting.{noted_as}
use Rattle.step_log.proofs.noted_peer.NotedPeer.retire.Goals as goal

pub returns : goal.returns
returns g c =
    rw (sym c.self.view_is, sym c.pass.view_is, sym c.seen_of.ensures) record {
      noted = noted_as c.pass.inside.credits
          c.push.ensures.begun c.push.ensures.items;
      number = refl;
      state = c.retire-answer.ensures;
    }
