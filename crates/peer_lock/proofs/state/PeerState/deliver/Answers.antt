use Rattle.std.specs.Prelude.{◌&&◌}
use Rattle.std.proofs.Common.{◌≡◌, ℕ, List, Some, rules, subst, sym, ◌∙◌, ap}
use Rattle.leg_machine.specs.Steps.{full_step}
use Rattle.peer_legs.specs.Legs.{leg_at, with_leg}
use Rattle.outbox.specs.Outbox.{put}
use Rattle.peer_lock.specs.Peer.{PeerView, with_sent}
use Rattle.peer_lock.specs.Trunks.{has_any, goes_ahead}
use Rattle.peer_legs.proofs.PlaceLaws.{own_number}
use Rattle.peer_lock.proofs.Trunks.{is_sent, sent_peer}
use Rattle.peer_lock.proofs.Kept.{legs_kept, kept_after}
use Rattle.peer_lock.proofs.Views.{view_of}
use Rattle.peer_lock.proofs.state.PeerState.deliver.Goals as goal

pub invariant_of-self : goal.invariant_of-self
invariant_of-self g c = legs_kept _ _ _ c.self.invariant c.full.ensures.step.ruled

pub invariant_of-self-2 : goal.invariant_of-self-2
invariant_of-self-2 g c =
    kept_after _ c.is_ahead-goes.result _ _ _ _ c.self.invariant c.full.ensures.step.ruled c.flush_if.ensures.queue
    c.flush_if.ensures.account

pub returns-clause-peer : goal.returns-clause-peer
returns-clause-peer g c named here =
    let inside = subst (λ (v : PeerView). leg_at v.legs c.args.number ≡ Some named) (sym c.self.view_is) here in
    let number = c.call_number-own.ensures.number ∙ sym (own_number c.self.inside.legs c.args.number named
    c.count-sound.ensures.sound inside) in
    let step = full_step named.leg c.args.frame.now c.args.now in
    let view = view_of c.self.view_is in
    let goes : c.is_ahead-goes.result ≡ (has_any c.full.new.replies && goes_ahead view.rules view.queue
    c.call_number-own.result) = search rules in
    let sent : c.put_all.new.outbox ≡ put c.flush_if.new.outbox c.full.new.replies = search rules in
    sent_peer view c.args.self.now named.name c.call_number-own.result c.full.new.self step.leg c.full.new.replies
    c.put_all.new.outbox c.flush_if.new.queue c.flush_if.new.account
    c.self.view_is number (c.in_ok-heard.ensures.step.leg named inside)
    (is_sent view c.call_number-own.result c.full.new.replies c.is_ahead-goes.result c.flush_if.new.outbox c.put_all.new.outbox
    c.flush_if.new.queue c.flush_if.new.account
    goes c.flush_if.ensures.outbox sent c.flush_if.ensures.queue c.flush_if.ensures.account)
    ∙ ap (λ (sent : List (List ℕ)). record (with_sent c.args.self.now named.name.number sent)
    { legs = with_leg c.args.self.now.legs named.name step.leg }) (c.in_ok-heard.ensures.replies named inside)

pub returns-clause-heard : goal.returns-clause-heard
returns-clause-heard g c named here =
    c.in_ok-heard.ensures.heard named (subst (λ (v : PeerView). leg_at v.legs c.args.number ≡ Some named) (sym c.self.view_is)
    here)

pub returns-clause-there : goal.returns-clause-there
returns-clause-there g c named here =
    c.in_ok-heard.ensures.there named (subst (λ (v : PeerView). leg_at v.legs c.args.number ≡ Some named) (sym c.self.view_is)
    here)

pub returns-clause-unrefused : goal.returns-clause-unrefused
returns-clause-unrefused g c named here =
    c.in_ok-heard.ensures.unrefused named (subst (λ (v : PeerView). leg_at v.legs c.args.number ≡ Some named)
    (sym c.self.view_is) here)
