-- A NEW that opens a leg hands up no media.
use Rattle.std.proofs.Common.{◌≡◌, ℕ, ◌+◌, List, refl, ap, sym, ◌∙◌}
use Rattle.std.specs.Prelude.{◌&&◌}
use Rattle.std.specs.List.{AllByRecursion}
use Rattle.std.proofs.lemmas.Bool.{cond_both}
use Rattle.call_book.specs.declared.leg_name.LegName.{LegName}
use Rattle.iax_frames.specs.FullFrame.{FullFrame}
use Rattle.leg_machine.specs.Openings.{opening_of, opening_effect, leg_for_new}
use Rattle.leg_machine.specs.Effects.{is_reply}
use Rattle.leg_machine.specs.Steps.{Step, no_room, answered, taken}
use Rattle.call_signals.specs.declared.message.Message.TheVariants.{New}
use Rattle.seq_window.specs.Window.{is_full}
use Rattle.call_signals.specs.declared.openings.Opening.{Opening}
use Rattle.call_signals.specs.declared.openings.Opening.TheVariants.{Refused, Challenges, Offers}
use Rattle.call_signals.specs.declared.signal.Signal.{Signal}
use Rattle.peer_lock.specs.Accounts.{Credit, with_step}
use Rattle.peer_lock.specs.CarriedMedia.{LiesWithin, handed_octets}
use Rattle.peer_lock.specs.Openings.{opens_in}
use Rattle.peer_lock.specs.Peer.{PeerView, handed_up}
use Rattle.exchange_core.specs.Covered.{TakesCredit}

record IsSilent (signals : List (LegName × Signal)) : Type 0 where
  within : (len : ℕ) → AllByRecursion (LiesWithin len) signals
  none : handed_octets signals ≡ 0

effect_silent : (name : LegName) (opening : Opening) → IsSilent (handed_up name (opening_effect opening).signal)
effect_silent name Refused = record { within = λ len. tt; none = refl }
effect_silent name Challenges = record { within = λ len. tt; none = refl }
effect_silent name Offers = record { within = λ len. (tt, tt); none = refl }

opens_silent : (peer : PeerView) (name : LegName) (frame : FullFrame) (now : ℕ) (challenge : List ℕ)
    → IsSilent (opens_in peer name frame now challenge).signals
opens_silent peer name frame now challenge =
    let opening = opening_of peer.rules frame in
    let effect = opening_effect opening in
    let leg = leg_for_new peer.rules name.number frame now challenge in
    cond_both (is_reply effect.answer && is_full leg.window) (no_room leg)
    (answered effect.answer (taken effect leg frame New now) frame now effect.signal)
    (λ (s : Step). IsSilent (handed_up name s.signal))
    (λ _. record { within = λ len. tt; none = refl }) (λ _. effect_silent name opening)

pub opening_takes : (peer : PeerView) (name : LegName) (frame : FullFrame) (now : ℕ) (challenge : List ℕ) (len : ℕ)
    (old new : Credit) (signals : List (LegName × Signal))
    → signals ≡ (opens_in peer name frame now challenge).signals → new ≡ with_step old 0 → TakesCredit len old new signals
opening_takes peer name frame now challenge len old new signals are credit =
    let silent = opens_silent peer name frame now challenge in
    rw are (record {
      within = silent.within len;
      octets = ap (λ (c : Credit). c.octets) credit ∙ ap (λ n. old.octets + n)
          (sym silent.none);
    })
