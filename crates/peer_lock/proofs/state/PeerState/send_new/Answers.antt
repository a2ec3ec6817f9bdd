use Rattle.std.proofs.Common.{◌≡◌, ◌∙◌, ℕ, ap, rules}
use Rattle.leg_machine.specs.Openings.{open_out_step}
use Rattle.outbox.specs.Outbox.{put}
use Rattle.peer_lock.specs.Peer.{PeerView}
use Rattle.peer_lock.proofs.Opened.{sent_new}
use Rattle.peer_lock.proofs.Views.{view_of}
use Rattle.peer_lock.proofs.state.PeerState.send_new.Goals as goal

pub returns-clause-peer : goal.returns-clause-peer
returns-clause-peer g c =
    let sent : c.put_all.new.outbox ≡ put c.self.inside.outbox c.open_out_into.new.replies = search rules in
    sent_new (view_of c.self.view_is) c.args.self.now c.args.name c.free_number-number.result c.args.called.now
    c.args.caller.now c.args.format c.args.now
    c.put_all.new.outbox c.open_out_into.new.replies c.self.view_is c.free_number-number.ensures.number sent
    c.in_ok-leg.ensures.replies

pub returns-clause-leg : goal.returns-clause-leg
returns-clause-leg g c =
    c.in_ok-leg.ensures.leg
    ∙ ap (λ (n : ℕ). (open_out_step c.self.inside.rules n c.args.called.now c.args.caller.now c.args.format c.args.now).leg)
    c.free_number-number.ensures.number
    ∙ ap (λ (v : PeerView). (open_out_step v.rules c.args.name.number c.args.called.now c.args.caller.now c.args.format
    c.args.now).leg) c.self.view_is
