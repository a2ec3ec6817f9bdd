-- When POKEs go out, and which PONGs answer them, case by case.
use Rattle.std.specs.Prelude.{◌&&◌, nat_le}
use Rattle.std.proofs.Common.{◌≡◌, ◌⊎◌, ℕ, ◌+◌, ◌-◌, ◌<◌, ◌≤◌, arith, Bool, true, false, [], ◌∷◌, Option, None, Some, cond}
use Rattle.std.proofs.Common.{refl, sym}
use Rattle.std.proofs.Common.{inl, inr}
use Rattle.std.proofs.lemmas.Bool.{eqb-true, le-leb, leb-true, lt-leb, lt-ltb}
use Rattle.call_signals.specs.declared.rules.PeerRules.{PeerRules}
use Rattle.iax_frames.specs.declared.full_frame.FullHead.{FullHead}
use Rattle.peer_lock.specs.Pokes.{answers_poke, is_poke_due, is_stamped, poke_octets, poke_stamp, poke_wait, pokes_after}
use Rattle.peer_lock.specs.Pokes.{pokes_sent}
use Rattle.peer_lock.specs.Pokes.{silent_then, unanswered_since}
use Rattle.peer_lock.specs.declared.pokes.Pokes.{Pokes}

abbrev Asks : PeerRules → Pokes → ℕ → Type 0
Asks rules pokes now = pokes_sent rules pokes now ≡ poke_octets (poke_stamp rules now) ∷ []

pub off : (rules : PeerRules) (pokes : Pokes) (now : ℕ) → rules.qualify_ms ≡ 0 → pokes_sent rules pokes now ≡ []
off rules pokes now none = rw none refl

pub first : (rules : PeerRules) (pokes : Pokes) (now : ℕ) → 1 ≤ rules.qualify_ms → pokes.last ≡ None → Asks rules pokes now
first rules pokes now on none = rw (le-leb _ _ on, none) refl

-- one of a run, and one that begins a run
in_run : (rules : PeerRules) (pokes : Pokes) → 1 ≤ pokes.unanswered → pokes.unanswered ≤ rules.max_retries
    → poke_wait rules pokes ≡ rules.retry_ms
in_run rules pokes some most = rw (le-leb _ _ some, le-leb _ _ most) refl

begins : (rules : PeerRules) (pokes : Pokes) → (pokes.unanswered ≡ 0) ⊎ (rules.max_retries < pokes.unanswered)
    → poke_wait rules pokes ≡ rules.qualify_ms
begins rules pokes (inl none) = rw none refl
begins rules pokes (inr all) =
    let some : 1 ≤ pokes.unanswered = omega (arith, all) in rw (le-leb _ _ some, lt-leb _ _ all) refl

waited : (rules : PeerRules) (pokes : Pokes) (now last wait : ℕ) → 1 ≤ rules.qualify_ms → pokes.last ≡ Some last
    → poke_wait rules pokes ≡ wait → last + wait ≤ now → Asks rules pokes now
waited rules pokes now last wait on was is late =
    let old : wait ≤ now - last = omega (arith, late) in rw (le-leb _ _ on, was, is, le-leb _ _ old) refl

soon : (rules : PeerRules) (pokes : Pokes) (now last wait : ℕ) → pokes.last ≡ Some last → poke_wait rules pokes ≡ wait
    → last ≤ now → now < last + wait → pokes_sent rules pokes now ≡ []
soon rules pokes now last wait was is past early =
    let young : now - last < wait = omega (arith, past, early) in
    rw (was, is, lt-leb _ _ young) (none (nat_le 1 rules.qualify_ms))
  where
    none : (b : Bool) → cond (b && false) (poke_octets (poke_stamp rules now) ∷ []) [] ≡ []
    none true = refl
    none false = refl

pub repeated : (rules : PeerRules) (pokes : Pokes) (now last : ℕ) → 1 ≤ rules.qualify_ms → pokes.last ≡ Some last
    → 1 ≤ pokes.unanswered → pokes.unanswered ≤ rules.max_retries → last + rules.retry_ms ≤ now → Asks rules pokes now
repeated rules pokes now last on was some most late =
    waited rules pokes now last rules.retry_ms on was (in_run rules pokes some most) late

pub not_sooner : (rules : PeerRules) (pokes : Pokes) (now last : ℕ) → pokes.last ≡ Some last → 1 ≤ pokes.unanswered
    → pokes.unanswered ≤ rules.max_retries → last ≤ now → now < last + rules.retry_ms → pokes_sent rules pokes now ≡ []
not_sooner rules pokes now last was some most past early =
    soon rules pokes now last rules.retry_ms was (in_run rules pokes some most) past early

pub next : (rules : PeerRules) (pokes : Pokes) (now last : ℕ) → 1 ≤ rules.qualify_ms → pokes.last ≡ Some last
    → (pokes.unanswered ≡ 0) ⊎ (rules.max_retries < pokes.unanswered) → last + rules.qualify_ms ≤ now → Asks rules pokes now
next rules pokes now last on was over late =
    waited rules pokes now last rules.qualify_ms on was (begins rules pokes over) late

pub next_not_sooner : (rules : PeerRules) (pokes : Pokes) (now last : ℕ) → pokes.last ≡ Some last
    → (pokes.unanswered ≡ 0) ⊎ (rules.max_retries < pokes.unanswered) → last ≤ now → now < last + rules.qualify_ms
    → pokes_sent rules pokes now ≡ []
next_not_sooner rules pokes now last was over past early =
    soon rules pokes now last rules.qualify_ms was (begins rules pokes over) past early

pub runs : (rules : PeerRules) (pokes : Pokes) (now : ℕ) → pokes.unanswered ≤ rules.max_retries + 1
    → (pokes_after rules pokes now).unanswered ≤ rules.max_retries + 1
runs rules pokes now within =
    by (is_poke_due rules pokes now) (nat_le 1 pokes.unanswered) (nat_le pokes.unanswered rules.max_retries) refl
  where
    by : (due some most : Bool) → nat_le pokes.unanswered rules.max_retries ≡ most
        → (cond due (cond (some && most) (record pokes { last = Some now; unanswered = pokes.unanswered + 1 })
        (record pokes { last = Some now; unanswered = 1; since = now; silent = silent_then rules pokes })) pokes).unanswered
        ≤ rules.max_retries + 1
    by false some most is = within
    by true true true is = let most = leb-true pokes.unanswered rules.max_retries is in omega (arith, most)
    by true true false is = omega arith
    by true false most is = omega arith

pub silent : (rules : PeerRules) (pokes : Pokes) (now last : ℕ) → pokes.last ≡ Some last
    → rules.max_retries < pokes.unanswered → last + rules.retry_ms ≤ now → unanswered_since rules pokes now ≡ Some pokes.since
silent rules pokes now last was all late =
    let old : rules.retry_ms ≤ now - last = omega (arith, late) in rw (lt-ltb _ _ all, was, le-leb _ _ old) refl

pub pongs : (rules : PeerRules) (pokes : Pokes) (head : FullHead) → answers_poke rules pokes head ≡ true
    → (last : ℕ) × (pokes.last ≡ Some last) × (1 ≤ pokes.unanswered) × (head.timestamp ≡ poke_stamp rules last)
pongs rules pokes head answers = by (nat_le 1 pokes.unanswered) refl pokes.last refl answers
  where
    by : (some : Bool) → nat_le 1 pokes.unanswered ≡ some → (at : Option ℕ) → pokes.last ≡ at
        → some && is_stamped rules at head.timestamp ≡ true
        → (last : ℕ) × (pokes.last ≡ Some last) × (1 ≤ pokes.unanswered) × (head.timestamp ≡ poke_stamp rules last)
    by true is (Some last) at stamped =
        (last, at, leb-true 1 pokes.unanswered is, sym (eqb-true (poke_stamp rules last) head.timestamp stamped))
    by true is None at stamped = absurd (cc)
    by false is at was stamped = absurd (cc)
