-- Laws of the reports of received datagrams.
use Rattle.std.specs.Prelude.{IfSome, is_some, option_map}
use Rattle.std.proofs.Common.{◌≡◌, ◌↔◌, ◌⊎◌, inl, inr, ℕ, Bool, true, false, IsTrue, List, [], Option, None, Some, refl, ap, sym}
use Rattle.std.proofs.Common.{subst, ◌∙◌, arith, length}
use Rattle.std.proofs.lemmas.List.{drop_all}
use Rattle.exchange_core.specs.Denial.{denied_by, refusal_in, refused_since}
use Rattle.exchange_core.specs.Rejections.{rejected_since, rejection_by}
use Rattle.exchange_core.specs.Since.{last_of, noted_since}
use Rattle.exchange_core.specs.declared.answers.Refusal.{Refusal}
use Rattle.exchange_core.specs.declared.watch.Event.{Event}
use Rattle.exchange_core.specs.declared.watch.Event.TheVariants as events
use Rattle.exchange_core.specs.declared.watch.ServiceStage.{ServiceStage}
use Rattle.step_log.specs.Notes.{Noted}
use Rattle.step_log.specs.declared.made.Made.{Made}
use Rattle.peer_lock.specs.declared.steps.Rejection.{Rejection}
use Rattle.udp_workers.specs.Draining.{IsTurnedAway}
use Rattle.udp_workers.specs.Receipts.{IsSignOfLife, ReportsOf, SpellsIax}

not_some : {A : Type 0} (x : A) → None ≡ Some x → ⊥
not_some x e = cc

-- ---- a datagram that is turned away

none_since : (pass : Noted) → noted_since pass pass ≡ []
none_since pass = drop_all (length pass.made) pass.made (omega arith)

none_refused : (pass : Noted) → refused_since pass pass ≡ None
none_refused pass = ap (λ (steps : List Made). refusal_in (denied_by steps)) (none_since pass)

none_rejected : (pass : Noted) → rejected_since pass pass ≡ None
none_rejected pass = ap (λ (steps : List Made). last_of rejection_by steps None) (none_since pass)

-- its reports: nothing was noted of it
pub reports_away : (observed : Event → Type 0) (peer : ℕ) (stage : ServiceStage) (now : ℕ) (octets : List ℕ) (pass : Noted)
    → observed (events.Received peer now true) → observed (events.TurnedAway peer) → ReportsOf observed peer stage now octets pass pass
reports_away observed peer stage now octets pass received away = record {
  is_alive = true;
  sign = (λ alive. inl (none_refused pass), λ sign. refl);
  received = received;
  away = λ is. away;
  refused = λ refusal is. absurd (not_some refusal (sym (none_refused pass) ∙ is));
  rejected = λ rejection is. absurd (not_some rejection (sym (none_rejected pass) ∙ is));
}

-- ---- one that the exchange answers

same_some : {A : Type 0} (one other : A) → Some one ≡ Some other → one ≡ other
same_some one other e = cc

-- an answer's refusal is the one that is read off its denial
pub refusal_read : {D : Type 0} (denied : Refusal → D) (read : Option D → Option Refusal) (answer : Option Refusal)
    (since : Option D) → option_map denied answer ≡ since → read None ≡ None
    → ((one : Refusal) → read (Some (denied one)) ≡ Some one) → answer ≡ read since
refusal_read denied read None since is none some = sym none ∙ ap read is
refusal_read denied read (Some one) since is none some = sym (some one) ∙ ap read is

alike : (answer since : Option Refusal) → answer ≡ since → (is_some answer ≡ false) ↔ (since ≡ None)
alike None since is = (λ none. sym is, λ none. refl)
alike (Some refusal) since is = (λ none. absurd cc, λ none. absurd (not_some refusal (sym none ∙ sym is)))

-- an answer is reported that is the one since then
answer_told : {A : Type 0} (observed : A → Type 0) (answer since : Option A) → answer ≡ since → IfSome answer observed → (one : A)
    → since ≡ Some one → observed one
answer_told observed None since is each one gave = absurd (not_some one (is ∙ gave))
answer_told observed (Some answered) since is each one gave = subst observed (same_some answered one (is ∙ gave)) each

-- its reports, by its answer
pub reports_answered : (observed : Event → Type 0) (peer : ℕ) (stage : ServiceStage) (now : ℕ) (octets : List ℕ) (old new : Noted)
    (is_alive is_refused : Bool) (refusal : Option Refusal) (rejection : Option Rejection)
    → (IsTurnedAway stage octets → ⊥) → is_refused ≡ is_some refusal
    → (IsTrue is_alive ↔ ((is_refused ≡ false) ⊎ SpellsIax octets))
    → refusal ≡ refused_since old new → rejection ≡ rejected_since old new
    → observed (events.Received peer now is_alive)
    → IfSome refusal (λ refusal. observed (events.Refused peer refusal))
    → IfSome rejection (λ rejection. observed (events.Rejected peer rejection))
    → ReportsOf observed peer stage now octets old new
reports_answered observed peer stage now octets old new is_alive is_refused refusal rejection kept is alive refused rejected received
    refusals rejections = record {
      is_alive = is_alive;
      sign = (λ so. by_notes (alive.0 so), λ sign. alive.1 (by_answer sign));
      received = received;
      away = λ turned. absurd (kept turned);
      refused = answer_told (λ (r : Refusal). observed (events.Refused peer r)) refusal (refused_since old new) refused refusals;
      rejected = answer_told (λ (r : Rejection). observed (events.Rejected peer r)) rejection (rejected_since old new) rejected
          rejections;
    }
  where
    none : (is_some refusal ≡ false) ↔ (refused_since old new ≡ None)
    none = alike refusal (refused_since old new) refused

    by_notes : (is_refused ≡ false) ⊎ SpellsIax octets → IsSignOfLife octets old new
    by_notes (inl accepted) = inl (none.0 (sym is ∙ accepted))
    by_notes (inr spelled) = inr spelled

    by_answer : IsSignOfLife octets old new → (is_refused ≡ false) ⊎ SpellsIax octets
    by_answer (inl accepted) = inl (is ∙ none.1 accepted)
    by_answer (inr spelled) = inr spelled
