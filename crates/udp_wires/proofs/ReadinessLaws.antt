-- Laws of the readiness events that the system reports of sockets, one after another.
use Rattle.std.proofs.Common.{◌≡◌, ◌≢◌, ◌<◌, ◌≤◌, ◌↔◌, ◌⊎◌, inl, inr, ℕ, zero, suc, List, ◌∷◌, refl, sym, subst, ◌∙◌, arith}
use Rattle.std.proofs.lemmas.Bool.{cases_lt}
use Rattle.std.specs.List.{Any}
use Rattle.udp_wires.specs.SocketSet.{Has}
use Rattle.udp_wires.specs.declared.socket_set.SocketSet.{SocketSet}

module _ {X : Type 0} (P : X → Type 0) where
  any_up : (x : X) (xs : List X) → P x ⊎ Any P xs → Any P (x ∷ xs)
  any_up x xs (inl here) = (0, x, omega arith, refl, here)
  any_up x xs (inr (k, y, within, is, there)) = (suc k, y, omega (arith, within), is, there)

  any_down : (x : X) (xs : List X) → Any P (x ∷ xs) → P x ⊎ Any P xs
  any_down x xs (zero, y, within, is, there) = inl (subst P (sym is) there)
  any_down x xs (suc k, y, within, is, there) = inr (k, y, omega (arith, within), is, there)

same_place : (one other : ℕ) → (one ≡ other) ⊎ (one ≢ other)
same_place one other = elim (cases_lt one other) [
  | inl less ↦ inr (λ same. omega (arith, less, same))
  | inr more ↦
      elim (cases_lt other one) [
        | inl less ↦ inr (λ same. omega (arith, less, same))
        | inr no_less ↦ inl (omega (arith, more, no_less))
      ]
]

module _ {X : Type 0} (token : X → ℕ) (event : X) (rest : List X) (place : ℕ) where
  abbrev HasEvent : List X → Type 0
  HasEvent events = Any (λ e. token e ≡ place) events

  -- the event's place is added to the set
  pub event_of_place : (before after : SocketSet) → place < 64 → Has after (token event)
      → ((other : ℕ) → other < 64 → other ≢ token event → Has after other ↔ Has before other)
      → (Has after place ⊎ HasEvent rest) ↔ (Has before place ⊎ HasEvent (event ∷ rest))
  event_of_place before after within there others = (forth, back)
    where
      forth : Has after place ⊎ HasEvent rest → Has before place ⊎ HasEvent (event ∷ rest)
      forth (inl has) = elim (same_place (token event) place) [
        | inl same ↦ inr (any_up (λ e. token e ≡ place) event rest (inl same))
        | inr apart ↦ inl ((others place within (λ same. apart (sym same))).0 has)
      ]
      forth (inr more) = inr (any_up (λ e. token e ≡ place) event rest (inr more))

      of_event : (token event ≡ place) ⊎ HasEvent rest → Has after place ⊎ HasEvent rest
      of_event (inl same) = inl (subst (Has after) same there)
      of_event (inr more) = inr more

      back : Has before place ⊎ HasEvent (event ∷ rest) → Has after place ⊎ HasEvent rest
      back (inl has) = elim (same_place (token event) place) [
        | inl same ↦ inl (subst (Has after) same there)
        | inr apart ↦ inl ((others place within (λ same. apart (sym same))).1 has)
      ]
      back (inr more) = of_event (any_down (λ e. token e ≡ place) event rest more)

  -- an event of no place
  pub event_of_none : (set : SocketSet) → place < 64 → 64 ≤ token event → (Has set place ⊎ HasEvent rest)
      ↔ (Has set place ⊎ HasEvent (event ∷ rest))
  event_of_none set within past = (forth, back)
    where
      forth : Has set place ⊎ HasEvent rest → Has set place ⊎ HasEvent (event ∷ rest)
      forth (inl has) = inl has
      forth (inr more) = inr (any_up (λ e. token e ≡ place) event rest (inr more))

      of_event : (token event ≡ place) ⊎ HasEvent rest → Has set place ⊎ HasEvent rest
      of_event (inl same) = let none : ⊥ = omega (arith, same, within, past) in absurd none
      of_event (inr more) = inr more

      back : Has set place ⊎ HasEvent (event ∷ rest) → Has set place ⊎ HasEvent rest
      back (inl has) = inl has
      back (inr more) = of_event (any_down (λ e. token e ≡ place) event rest more)
