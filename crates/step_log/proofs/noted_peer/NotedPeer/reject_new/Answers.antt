use Rattle.std.proofs.Common.{refl, sym}
use Rattle.step_log.proofs.noted_peer.NotedPeer.reject_new.Goals as goal

pub returns : goal.returns
returns g c =
    rw (sym c.self.view_is, sym c.pass.view_is)
    record {
      noted = record {
        made = rw (sym c.head.ensures, sym c.payload.ensures, sym c.of.ensures) c.push.ensures.items;
        begun = c.push.ensures.begun;
      };
      number = refl;
      state = c.reject_new-answer.ensures;
    }
