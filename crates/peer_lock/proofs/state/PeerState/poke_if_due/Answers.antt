use Rattle.std.proofs.Common.{◌≡◌, ℕ, true, cond, List, [], ◌∷◌, ◌∙◌, ap, sym, rules, Bool}
use Rattle.outbox.specs.Outbox.{put}
use Rattle.peer_lock.specs.Peer.{PeerView}
use Rattle.peer_lock.specs.Pokes.{is_poke_due, poke_octets, poke_stamp, poked, pokes_after, pokes_sent}
use Rattle.peer_lock.specs.Ticks.{asked}
use Rattle.peer_lock.proofs.Views.{view_of}
use Rattle.peer_lock.proofs.state.PeerState.poke_if_due.Goals as goal

pub returns : goal.returns
returns g c =
    let view = view_of c.self.view_is in
    let now : ℕ = c.args.now in
    let stamp : ℕ = poke_stamp view.rules now in
    let due : is_poke_due view.rules view.pokes now ≡ true = search rules in
    let written : c.in-Ok.out ≡ poke_octets stamp = search rules in
    let sent : pokes_sent view.rules view.pokes now ≡ poke_octets stamp ∷ [] = ap (λ (b : Bool). cond b (poke_octets stamp ∷
    []) [])
    due in
    let after : pokes_after view.rules view.pokes now ≡ poked view.rules view.pokes now =
    ap (λ (b : Bool). cond b (poked view.rules view.pokes now) view.pokes) due in
    (λ i. record view {
      outbox = (c.put.ensures ∙ ap (λ (o : List ℕ). put view.outbox (o ∷ [])) written ∙ ap (put view.outbox) (sym sent)) i;
      pokes = (c.poked-self-inside.ensures ∙ sym after) i;
    })
    ∙ ap (λ (v : PeerView). asked v now) c.self.view_is
