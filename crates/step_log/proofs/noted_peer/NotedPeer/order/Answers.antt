use Rattle.std.proofs.Common.{refl, sym}
use Rattle.step_log.proofs.noted_peer.NotedPeer.order.Goals as goal

pub returns : goal.returns
returns g c =
    rw (sym c.self.view_is, sym c.pass.view_is) record {
      noted = record {
        made = rw (sym c.kind.ensures, sym c.media_in.ensures)
            c.push.ensures.items;
        begun = c.push.ensures.begun;
      };
      number = refl;
      state = c.order-answer.ensures;
    }
