-- The sums of accounts and the numbers of legs, peer by peer.
use Rattle.std.proofs.Common.{◌≡◌, ℕ, ◌+◌, ◌%◌, ◌^◌, ◌-◌, min, List, [], ◌∷◌, length, sum, sum_by, refl, sym, ap, ◌∙◌, add_comm, arith}
use Rattle.std.proofs.Math.Nat.{mod-add-mod}
use Rattle.std.proofs.lemmas.List.Sums.{sum_by-cons}
use Rattle.control_requests.specs.declared.views.AccountsRow.{AccountsRow}
use Rattle.peer_accounts.specs.declared.sums.Sums.{Sums}
use Rattle.service_api.specs.Accounts.{AddsUp, asked_for_sums, total, with_sums}
use Rattle.service_api.specs.Orders.{CountsLegs, asked_for_legs}
use Rattle.step_log.specs.Notes.{Noted, note}
use Rattle.step_log.specs.declared.made.Made.TheVariants as mades

-- the total with one more answer
total_more : (field : Sums → ℕ) (answers : List Sums) (sums : Sums) (before : ℕ) → before ≡ total field answers
    → (before + field sums) % 2 ^ 64 ≡ total field (sums ∷ answers)
total_more field answers sums before is =
    ap (λ n. (n + field sums) % 2 ^ 64) is ∙ mod-add-mod (sum_by field answers) (2 ^ 64) (field sums)
    ∙ ap (λ n. n % 2 ^ 64) (add_comm (sum_by field answers) (field sums) ∙ sym (sum_by-cons field sums answers))

-- one peer more
pub adds_up_more : (place peer : ℕ) (row : AccountsRow) (sums : Sums) (old mid new : Noted) → AddsUp place row old mid
    → peer ≡ place → new ≡ note (mades.ShowSums peer sums) mid → AddsUp (place + 1) (with_sums row sums) old new
adds_up_more place peer row sums old mid new is same noted = record {
  answers = sums ∷ is.answers;
  one_each = omega (arith, is.one_each);
  noted = noted ∙ ap (λ p. note (mades.ShowSums peer sums) p) is.noted
      ∙ ap (λ n. note (mades.ShowSums n sums) (asked_for_sums is.answers old)) (same ∙ sym is.one_each);
  accepted = total_more (λ s. s.accepted) is.answers sums row.accepted is.accepted;
  packed = total_more (λ s. s.packed) is.answers sums row.packed is.packed;
  queued = total_more (λ s. s.queued) is.answers sums row.queued is.queued;
  dropped = total_more (λ s. s.dropped) is.answers sums row.dropped is.dropped;
  quelched = total_more (λ s. s.quelched) is.answers sums row.quelched is.quelched;
}

-- the legs of one peer more
pub counts_more : (place peer legs more : ℕ) (old mid new : Noted) → CountsLegs place legs old mid → peer ≡ place
    → new ≡ note (mades.CountLegs peer more) mid → CountsLegs (place + 1) (min (legs + more) (2 ^ 32 - 1)) old new
counts_more place peer legs more old mid new is same noted = record {
  answers = more ∷ is.answers;
  one_each = omega (arith, is.one_each);
  noted = noted ∙ ap (λ p. note (mades.CountLegs peer more) p) is.noted
      ∙ ap (λ n. note (mades.CountLegs n more) (asked_for_legs is.answers old)) (same ∙ sym is.one_each);
  sum_is = let one_more : sum (more ∷ is.answers) ≡ more + sum is.answers = sum_by-cons (λ n. n) more is.answers in
      omega (arith, is.sum_is, one_more);
}
