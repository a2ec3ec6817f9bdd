-- The effect on a peer of a full frame that reaches a leg.
use Rattle.std.specs.Prelude.{map}
use Rattle.std.proofs.Common.{◌≡◌, ℕ, ap, ◌∙◌}
use Rattle.call_signals.specs.declared.outcomes.Heard.{Heard}
use Rattle.iax_frames.specs.FullFrame.{FullFrame, spelling}
use Rattle.leg_machine.specs.Steps.{full_step, heard_of}
use Rattle.peer_accounts.specs.Accounts.{Credit, stepped, with_accepted, with_step as with_credit}
use Rattle.peer_accounts.specs.HandedUp.{HandedUp}
use Rattle.peer_legs.specs.Legs.{NamedLeg, with_leg}
use Rattle.peer_lock.specs.Arrivals.{reached_step, reflection}
use Rattle.peer_lock.specs.Makes.{Makes}
use Rattle.peer_lock.specs.Peer.{PeerView, granted, handed_up, leg_alone, offer_with, with_sent}
use Rattle.peer_lock.specs.declared.steps.Step.{Step}

-- the leg takes its step, and its signal is counted and handed up
pub reached : (first : ℕ) (old between new : PeerView) (named : NamedLeg) (frame : FullFrame) (now : ℕ) (heard : Heard)
    (step : Step) (pass_old pass_new : Credit) (onwards : HandedUp)
    → between ≡ record (with_sent old named.name.number (map spelling (full_step named.leg frame now).replies)) {
      legs = with_leg old.legs named.name (full_step named.leg frame now).leg;
    }
    → heard ≡ heard_of (full_step named.leg frame now)
    → new ≡ record between {
      accounts = with_accepted (stepped between.accounts) (granted first between.accounts.accepted
          heard.signal).octets;
    }
    → step ≡ record (leg_alone named.name heard.judged) { rejected = reflection between.rules frame heard.judged }
    → onwards.signals ≡ handed_up named.name (granted first between.accounts.accepted heard.signal).signal
    → onwards.offer ≡ offer_with (full_step named.leg frame now).leg (granted first between.accounts.accepted heard.signal).signal
    → pass_new ≡ with_credit pass_old (granted first between.accounts.accepted heard.signal).octets
    → Makes (reached_step first old named frame now) new step pass_old pass_new onwards
reached first old between new named frame now heard step pass_old pass_new onwards between_is heard_is new_is step_is signals_are
    offer_is credit_is = record {
      peer =
          new_is
          ∙ ap (λ (v : PeerView). record v {
            accounts = with_accepted (stepped v.accounts)
                (granted first v.accounts.accepted heard.signal).octets;
          }) between_is
          ∙ ap (λ (h : Heard). record sent {
            legs = with_leg old.legs named.name (full_step named.leg frame now).leg;
            accounts = with_accepted (stepped sent.accounts) (granted first old.accounts.accepted h.signal).octets;
          }) heard_is;
      answer =
          step_is
          ∙ ap (λ (v : PeerView). record (leg_alone named.name heard.judged) { rejected = reflection v.rules frame heard.judged })
          between_is
          ∙ ap (λ (h : Heard). record (leg_alone named.name h.judged) { rejected = reflection old.rules frame h.judged })
          heard_is;
      signals =
          signals_are
          ∙ ap (λ (v : PeerView). handed_up named.name (granted first v.accounts.accepted heard.signal).signal) between_is
          ∙ ap (λ (h : Heard). handed_up named.name (granted first old.accounts.accepted h.signal).signal) heard_is;
      offer =
          offer_is
          ∙ ap (λ (v : PeerView). offer_with (full_step named.leg frame now).leg
          (granted first v.accounts.accepted heard.signal).signal) between_is
          ∙ ap (λ (h : Heard). offer_with (full_step named.leg frame now).leg
          (granted first old.accounts.accepted h.signal).signal)
          heard_is;
      credit =
          credit_is
          ∙ ap (λ (v : PeerView). with_credit pass_old (granted first v.accounts.accepted heard.signal).octets) between_is
          ∙ ap (λ (h : Heard). with_credit pass_old (granted first old.accounts.accepted h.signal).octets) heard_is;
    }
  where
    sent : PeerView
    sent = with_sent old named.name.number (map spelling (full_step named.leg frame now).replies)
