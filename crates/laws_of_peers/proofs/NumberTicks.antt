-- The leg of each local number after a tick.
use Rattle.std.proofs.Common.{◌≡◌, ℕ, zero, suc, ◌-◌, ◌==◌, ◌≤◌, ◌⊎◌, nat_le, Bool, inl, inr, List, [], ◌∷◌, Option, Some, None}
use Rattle.std.proofs.Common.{slice_get, refl, ap, subst, sym, ◌∙◌}
use Rattle.std.proofs.lemmas.Bool.{cases_Bool}
use Rattle.call_signals.specs.declared.stage.Stage.TheVariants.{Ended}
use Rattle.leg_machine.specs.Leg.{LegState}
use Rattle.leg_machine.specs.Ticks.{tick_step}
use Rattle.leg_machine.specs.Tries.{NoneDue}
use Rattle.peer_legs.specs.Legs.{NamedLeg, PeerLegs, filled, leg_at}
use Rattle.peer_lock.specs.Peer.{PeerView}
use Rattle.peer_lock.specs.SoundPeer.{IsSoundPeer}
use Rattle.peer_lock.specs.Ticks.{legs_tick, place_tick, Ticks}
use Rattle.peer_lock.specs.declared.steps.TickReport.{TickReport}
use Rattle.laws_of_peers.proofs.TrunkSending.{packs_legs}

place_ticked : (skips : List ℕ) (places : List (Option NamedLeg)) (now index : ℕ)
    → (skipped : ℕ) × (filled (slice_get (legs_tick skips places now).places index)
    ≡ (place_tick skipped (filled (slice_get places index)) now).place)
place_ticked skips [] now index = (0, refl)
place_ticked [] (place ∷ places) now zero = (0, refl)
place_ticked [] (place ∷ places) now (suc index) = place_ticked [] places now index
place_ticked (skipped ∷ skips) (place ∷ places) now zero = (skipped, refl)
place_ticked (skipped ∷ skips) (place ∷ places) now (suc index) = place_ticked skips places now index

number_ticked : (legs : PeerLegs) (skips : List ℕ) (now number : ℕ)
    → (skipped : ℕ) × (leg_at (record legs { places = (legs_tick skips legs.places now).places }) number
    ≡ (place_tick skipped (leg_at legs number) now).place)
number_ticked legs skips now number = elim (cases_Bool (nat_le legs.first number)) [
  | inl e ↦ rw e (place_ticked skips legs.places now (number - legs.first))
  | inr e ↦ rw e (0, refl)
]

-- the legs after a tick
pub ticked_legs : (old new : PeerView) (now : ℕ) (report : TickReport) (ticks : Ticks old now report new)
    → new.legs ≡ record old.legs { places = (legs_tick ticks.legs.skips old.legs.places now).places }
ticked_legs old new now report ticks = packs_legs ticks.between.rules.trunk_ms ticks.between now ticks.octets new ticks.packs
    ∙ ap (λ (p : PeerView). p.legs) ticks.legs.legs

pub ticked_at : (old new : PeerView) (now : ℕ) (report : TickReport) → Ticks old now report new → (number : ℕ)
    → (skipped : ℕ) × (leg_at new.legs number ≡ (place_tick skipped (leg_at old.legs number) now).place)
ticked_at old new now report ticks number =
    let is = number_ticked old.legs ticks.legs.skips now number in
    (is.0, ap (λ (legs : PeerLegs). leg_at legs number) (ticked_legs old new now report ticks) ∙ is.1)

-- ---- what is due after a tick

module _ (law : (grown : Bool) (leg : LegState) (now : ℕ) → 1 ≤ leg.rules.retry_ms → ((tick_step grown leg now).leg.stage ≡ Ended)
    ⊎ NoneDue (tick_step grown leg now).leg now) where
  place_finished : (place : Option NamedLeg) (skipped now : ℕ) (after : NamedLeg) → ((named : NamedLeg) → place ≡ Some named
      → 1 ≤ named.leg.rules.retry_ms)
      → Some after ≡ (place_tick skipped place now).place → (after.leg.stage ≡ Ended) ⊎ NoneDue after.leg now
  place_finished None skipped now after some is = cc
  place_finished (Some named) skipped now after some is =
      let same : record { name = named.name; leg = (tick_step (skipped == 0) named.leg now).leg } ≡ after = cc in
      subst (λ (n : NamedLeg). (n.leg.stage ≡ Ended) ⊎ NoneDue n.leg now) same
      (law (skipped == 0) named.leg now (some named refl))

  pub none_due : (old new : PeerView) (now : ℕ) (report : TickReport) → IsSoundPeer old → Ticks old now report new
      → (number : ℕ) (named : NamedLeg)
      → leg_at new.legs number ≡ Some named → (named.leg.stage ≡ Ended) ⊎ NoneDue named.leg now
  none_due old new now report sound ticks number named at =
      let is = ticked_at old new now report ticks number in
      place_finished (leg_at old.legs number) is.0 now named
      (λ before was. rw (sound.kept.ruled number before was).rules_are sound.kept.rules.retry_ms.0)
      (sym at ∙ is.1)
