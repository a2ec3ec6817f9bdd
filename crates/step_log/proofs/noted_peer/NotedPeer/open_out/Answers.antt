use Rattle.std.proofs.Common.{refl, sym}
use Rattle.step_log.proofs.noted_peer.NotedPeer.open_out.Goals as goal

pub returns : goal.returns
returns g c =
    rw (sym c.self.view_is, sym c.pass.view_is)
    record {
      noted = record {
        made = rw (sym c.name-name.ensures, sym c.of.ensures, sym c.of-2.ensures, sym c.noted_answer.ensures)
            c.push.ensures.items;
        begun = c.push.ensures.begun;
      };
      number = refl;
      state = c.open_out-answer.ensures;
    }
