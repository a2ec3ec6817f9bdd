use Rattle.std.proofs.Common.{◌≡◌, ℕ, List, [], ◌∷◌, ◌∙◌, ap, rules}
use Rattle.outbox.specs.Outbox.{put}
use Rattle.peer_lock.specs.Delivery.{answer_octets}
use Rattle.peer_lock.specs.Peer.{PeerView, counted, with_datagram}
use Rattle.peer_lock.proofs.Views.{view_of}
use Rattle.peer_lock.proofs.state.PeerState.answer_alone.Goals as goal

pub returns-clause-peer : goal.returns-clause-peer
returns-clause-peer g c =
    let view = view_of c.self.view_is in
    let written : c.in-Ok.out ≡ answer_octets c.args.answer.now = search rules in
    (λ i. record view {
      outbox = (c.put.ensures ∙ ap (λ (o : List ℕ). put view.outbox (o ∷ [])) written) i;
      accounts = c.count_step.ensures.counted i;
    })
    ∙ ap (λ (v : PeerView). counted (with_datagram v (answer_octets c.args.answer.now))) c.self.view_is
