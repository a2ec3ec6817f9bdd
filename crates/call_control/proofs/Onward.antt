-- Properties that hold wherever the next signal leads.
use Rattle.call_control.specs.declared.place.Place.TheVariants as places
use Rattle.call_control.specs.Beginnings.{beginning_at}
use Rattle.call_control.proofs.Prelude.{◌≡◌, Some, None, refl, ℕ, List, [], ◌∷◌, arith, Option, LegName}
use Rattle.call_control.proofs.Prelude.{advance_from, in_hand, Command, Place, Signal, MediaSpan}

-- an equation that holds at each place to which the next signal can lead holds at the one to which it leads
module _ {A : Type 0} (f : Place → A) (routed : (name : LegName) → f (places.Routing name) ≡ f places.End)
    (found : (name : LegName) (command : Command MediaSpan) → f (places.Finding name command) ≡ f places.End)
    (looked : (name : LegName) → f (places.Looking name) ≡ f places.End)
    (looked_at : (peer number : ℕ) → f (places.LookingAt peer number) ≡ f places.End) where
  pub onward_at : (onward : List (LegName × Signal)) (touched : Option LegName) (looks : List (ℕ × ℕ))
      → f (advance_from onward touched looks).place ≡ f places.End
  onward_at [] (Some name) looks = looked name
  onward_at [] None [] = refl
  onward_at [] None (look ∷ looks) = looked_at look.0 look.1
  onward_at (up ∷ onward) touched looks = grind (arith, onward_at onward touched looks, routed, found)

module _ (onward : List (LegName × Signal)) (touched : Option LegName) (looks : List (ℕ × ℕ)) where
  abbrev further : Place
  further = (advance_from onward touched looks).place

  -- there is no lease when a signal is passed on
  pub onward_hand : in_hand further ≡ []
  onward_hand = onward_at in_hand (λ n. refl) (λ n a. refl) (λ n. refl) (λ p n. refl) onward touched looks

  -- it is past the first step
  pub onward_past : beginning_at further ≡ None
  onward_past = onward_at beginning_at (λ n. refl) (λ n a. refl) (λ n. refl) (λ p n. refl) onward touched looks
