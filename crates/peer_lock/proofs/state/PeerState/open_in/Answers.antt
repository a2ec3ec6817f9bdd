use Rattle.std.proofs.Common.{◌≡◌, ◌∙◌, ap, rules, sym}
use Rattle.call_signals.specs.declared.outcomes.Heard.{Heard}
use Rattle.leg_machine.specs.Steps.{Step, heard_of}
use Rattle.outbox.specs.Outbox.{put}
use Rattle.peer_legs.specs.Legs.{leg_of_remote}
use Rattle.peer_lock.specs.Peer.{PeerView, handed_up, leg_alone, offer_with}
use Rattle.peer_lock.proofs.Opened.{new_source, opened_in, taken_in}
use Rattle.peer_lock.proofs.Views.{view_of}
use Rattle.peer_lock.proofs.state.PeerState.open_in.Goals as goal

pub opened-requires-clause-remote : goal.opened-requires-clause-remote
opened-requires-clause-remote g c κs within = λ remote is.
    let source = c.args.frame.now.head.source in
    let new = new_source c.args.self.now _ c.name-name.result source (sym c.new_refused.ensures ∙ c.in_default.is) in
    let here = ap (λ (v : PeerView). leg_of_remote v.legs source) c.self.view_is ∙ new in
    let known = c.in-Ok.ensures.remote in
    let same : source ≡ remote = cc in
    rw (← same) here

pub returns-in-Ok : goal.returns-in-Ok
returns-in-Ok g c =
    let view = view_of c.self.view_is in
    let step_is = taken_in view c.args.self.now c.args.lease c.name-name.result c.free_number-number.result c.args.frame.now
    c.args.now c.args.challenge.now c.self.view_is c.free_number-number.ensures.number c.name-name.ensures in
    let heard_is = c.in-Ok.ensures.heard ∙ ap heard_of step_is in
    let leg_is = c.in-Ok.ensures.leg ∙ ap (λ (s : Step). s.leg) step_is in
    let sent : c.put_all.new.outbox ≡ put view.outbox c.open_in_into.new.replies = search rules in
    record {
      peer = opened_in view c.args.self.now c.opened.new.self c.args.lease _ _ c.put_all.new.outbox c.open_in_into.new.replies
          c.in-Ok.leg.state
          c.self.view_is step_is c.opened.ensures.peer sent c.in-Ok.ensures.replies c.in-Ok.ensures.leg;
      step = c.opened.ensures.step ∙ ap (λ (h : Heard). leg_alone c.args.lease h.judged) heard_is;
      signals = c.opened.ensures.signals ∙ ap (λ (h : Heard). handed_up c.args.lease h.signal) heard_is;
      offer = c.opened.ensures.offer ∙ (λ i. offer_with (leg_is i) (heard_is i).signal);
      credit = search rules;
      unrefused = search rules;
      refused = search rules;
      lease = search rules;
      err = search rules;
      no_memory = search rules;
    }
