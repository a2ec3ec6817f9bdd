-- A client that is changed at its place, or closed there.
use Rattle.std.proofs.Common.{◌≡◌, ◌<◌, ◌≤◌, ℕ, zero, suc, List, [], ◌∷◌, length, Some, None, Option, IfSome, true, refl, sym, ap, subst, arith}
use Rattle.std.proofs.lemmas.List.Sums.{sum_by-swap_remove}
use Rattle.std.specs.Prelude.{slice_get, slice_index_or, slice_set, sum_by, swap_remove}
use Rattle.control_server.specs.Clients.{At, AtFound, SparesOthers, gives_way}
use Rattle.control_server.specs.declared.client.Client.{Client}

found : (clients : List Client) (place : ℕ) (client : Client) → place < length clients
    → client ≡ slice_index_or clients place client → slice_get clients place ≡ Some client
found [] place client within is = absurd (omega arith)
found (first ∷ others) zero client within is = ap Some (sym is)
found (first ∷ others) (suc place) client within is = found others place client (omega arith) is

missing : (clients : List Client) (place : ℕ) → length clients ≤ place → slice_get clients place ≡ None
missing [] place beyond = refl
missing (first ∷ others) zero beyond = absurd (omega arith)
missing (first ∷ others) (suc place) beyond = missing others place (omega arith)

module _ (P : Client → Client → Type 0) (place : ℕ) (old : List Client) where
  pub at-place : (client after : Client) → place < length old → client ≡ slice_index_or old place client → P client after
      → At P place old (slice_set old place after)
  at-place client after within is p =
      subst (AtFound P place old (slice_set old place after)) (sym (found old place client within is)) (after, p, refl)

  pub at-none : length old ≤ place → At P place old old
  at-none beyond = subst (AtFound P place old old) (sym (missing old place beyond)) refl

-- the client at a place gives way, and is closed
pub spared : (now place : ℕ) (clients left : List Client) (closed : Client) → place < length clients
    → closed ≡ slice_index_or clients place closed → left ≡ swap_remove clients place closed
    → IfSome (slice_get clients place) (λ client. gives_way now client ≡ true) → SparesOthers now clients left
spared now place clients left closed within is left_is gives weight none =
    let yields : gives_way now closed ≡ true =
    subst (λ (c : Option Client). IfSome c (λ client. gives_way now client ≡ true)) (found clients place closed within is) gives in
    omega (
      arith,
      sum_by-swap_remove weight clients place closed within,
      ap weight is,
      ap (sum_by weight) left_is,
      none closed yields,
    )
