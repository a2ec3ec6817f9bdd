use Rattle.std.proofs.Common.{refl, sym}
use Rattle.step_log.proofs.noted_peer.NotedPeer.datagram_read.Goals as goal

pub returns : goal.returns
returns g c =
    rw (sym c.self.view_is, sym c.pass.view_is)
    record {
      noted = record {
        made = rw (sym c.octets.ensures, sym c.of-octets.ensures, sym c.of-handed.ensures)
            c.push.ensures.items;
        begun = c.push.ensures.begun;
      };
      number = refl;
      state = c.datagram_read-answer.ensures;
    }
