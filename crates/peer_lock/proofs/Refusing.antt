-- The reason why a datagram is refused, from its reading and from the answer of its step.
use native.Mathlib.Omega.{arith}
use Rattle.std.proofs.Common.{◌≡◌, ◌≢◌, ◌<◌, ◌≤◌, ◌⊎◌, ◌∙◌, ℕ, Bool, false, true≢false, List, length, Result, Ok, Err}
use Rattle.std.proofs.Common.{inl, inr, ap, refl, subst, sym}
use Rattle.std.specs.Prelude.{IfOk, IfErr, OnErr, IsTrue}
use Rattle.iax_frames.specs.Datagram.{Spells, Refuses}
use Rattle.iax_frames.specs.declared.datagram.Datagram.{Datagram}
use Rattle.iax_frames.specs.declared.datagram.Datagram.TheVariants.{Full, Mini, Video, Trunk}
use Rattle.iax_frames.specs.declared.datagram.FrameError.{FrameError}
use Rattle.iax_frames.specs.declared.datagram.FrameError.TheVariants as unread
use Rattle.peer_lock.specs.Arrivals.{datagram_refused}
use Rattle.peer_lock.specs.Errors.{from_frame}
use Rattle.peer_lock.specs.Makes.{IsDue}
use Rattle.peer_lock.specs.Peer.{PeerView}
use Rattle.peer_lock.specs.ReadDatagram.{IsReading}
use Rattle.peer_lock.specs.Unworked.{IsRefusedRead, IsSound, IsUnworked, IsWorked}
use Rattle.peer_lock.specs.declared.errors.PeerError.{PeerError}
use Rattle.peer_lock.specs.declared.errors.PeerError.TheVariants as errors
use Rattle.peer_lock.specs.declared.steps.Step.{Step}

-- At a peer that has step credit left: octets that aren't too long, and how they were read.
pub record AreLookedAt (credit made : ℕ) (octets : List ℕ) (answer : Result Datagram FrameError) : Type 0 where
  pub steps : made ≢ credit
  pub short : length octets ≤ 2048
  pub reading : IsReading octets answer

-- the same under other names
pub looked_at : (inside peer : PeerView) (credit : ℕ) (spent : Bool) (octets other : List ℕ)
    (answer given : Result Datagram FrameError)
    → inside ≡ peer → (inside.accounts.steps ≡ credit → IsTrue spent) → spent ≡ false → length octets ≤ 2048
    → IsReading octets answer
    → octets ≡ other → answer ≡ given → AreLookedAt credit peer.accounts.steps other given
looked_at inside peer credit spent octets other answer given same tells is short reading octets_are answer_is = record {
  steps = λ all. true≢false (sym (tells (ap (λ (p : PeerView). p.accounts.steps) same ∙ all)) ∙ is);
  short = subst (λ (o : List ℕ). length o ≤ 2048) octets_are short;
  reading = subst (IsReading other) answer_is (subst (λ (o : List ℕ). IsReading o answer) octets_are reading);
}

-- octets that are read aren't refused, and spell nothing else
module _ (octets : List ℕ) (d : Datagram) (reading : IsReading octets (Ok d)) where
  unrefused : (error : FrameError) → Refuses octets error → ⊥
  unrefused error why = subst (λ (answer : Result Datagram FrameError). OnErr answer ⊥) (reading.only_error error why) tt

  spelled_alone : (other : Datagram) → Spells octets other → other ≡ d
  spelled_alone other spelled =
      subst (λ (answer : Result Datagram FrameError). IfOk answer (λ x. x ≡ d)) (reading.only other spelled) refl

module _ (credit made : ℕ) (octets : List ℕ) (steps : made ≢ credit) (short : length octets ≤ 2048) where
  -- octets that can't be read are refused with the reader's error
  pub err_refused : (error : FrameError) → Refuses octets error → IsUnworked credit made octets (from_frame error)
  err_refused unread.Short why = (steps, short, why)
  err_refused (unread.MetaCommand command) why = (steps, short, (command, why))
  err_refused (unread.EntryCut place) why = (steps, short, (place, why))

  -- a datagram that is read but has no effect is refused with the error for it
  read_refused : (d : Datagram) (e : PeerError) → Spells octets d → IsRefusedRead d e → IsUnworked credit made octets e
  read_refused (Full frame) errors.TooLong spelled why = (steps, inr (short, (Full frame, spelled, why)))
  read_refused (Full frame) errors.NoSource spelled why = (steps, short, (Full frame, spelled, why))
  read_refused (Full frame) errors.Cut spelled why = (steps, short, (Full frame, spelled, why))
  read_refused (Full frame) e spelled why = absurd why
  read_refused (Mini mini) e spelled why = absurd why
  read_refused (Video video) e spelled why = absurd why
  read_refused (Trunk trunk) e spelled why = absurd why

  ok_refused : (peer : PeerView) (now : ℕ) (d : Datagram) (e : PeerError) → Spells octets d
      → IsRefusedRead d e ⊎ (IsSound d × IsDue (datagram_refused peer d now) e)
      → IsUnworked credit made octets e ⊎ ((d : Datagram) × IsWorked credit made octets d × IsDue (datagram_refused peer d now) e)
  ok_refused peer now d e spelled (inl why) = inl (read_refused d e spelled why)
  ok_refused peer now d e spelled (inr due) =
      inr (d, record { steps = steps; short = short; spelled = spelled; sound = due.0 }, due.1)

  too_long : 2048 < length octets → ⊥
  too_long long = not_both (length octets) long short
    where
      not_both : (n : ℕ) → 2048 < n → n ≤ 2048 → ⊥
      not_both n a b = omega arith

  -- the datagram is the one that was read, and its refusal is the result
  module _ (result : Result Step PeerError) (d : Datagram) (none : (error : FrameError) → Refuses octets error → ⊥)
      (only : (other : Datagram) → Spells octets other → other ≡ d) (unsound : (e : PeerError) → IsRefusedRead d e
      → result ≡ Err e) where
    as_read : (e : PeerError) (other : Datagram) → Spells octets other → IsRefusedRead other e → result ≡ Err e
    as_read e other spelled why = unsound e (subst (λ x. IsRefusedRead x e) (only other spelled) why)

    ok_unworked : (e : PeerError) → IsUnworked credit made octets e → result ≡ Err e
    ok_unworked errors.StepsSpent why = absurd (steps why)
    ok_unworked errors.TooLong (spare, inl long) = absurd (too_long long)
    ok_unworked errors.TooLong (spare, inr why) = as_read errors.TooLong why.1.0 why.1.1 why.1.2
    ok_unworked errors.Short why = absurd (none unread.Short why.2)
    ok_unworked errors.MetaCommand why = absurd (none (unread.MetaCommand why.2.0) why.2.1)
    ok_unworked errors.EntryCut why = absurd (none (unread.EntryCut why.2.0) why.2.1)
    ok_unworked e why = as_read e why.2.0 why.2.1 why.2.2

module _ (credit made : ℕ) (octets : List ℕ) (d : Datagram) (looked : AreLookedAt credit made octets (Ok d)) where
  pub read_unworked : (result : Result Step PeerError) → ((e : PeerError) → IsRefusedRead d e → result ≡ Err e)
      → (e : PeerError) → IsUnworked credit made octets e → result ≡ Err e
  read_unworked result unsound =
      ok_unworked credit made octets looked.steps looked.short result d (unrefused octets d looked.reading)
      (spelled_alone octets d looked.reading) unsound

  pub read_due : (peer : PeerView) (now : ℕ) (result : Result Step PeerError)
      → IfErr result (λ e. IsRefusedRead d e ⊎ (IsSound d × IsDue (datagram_refused peer d now) e))
      → IfErr result (λ e. IsUnworked credit made octets e ⊎ ((d : Datagram) × IsWorked credit made octets d ×
      IsDue (datagram_refused peer d now) e))
  read_due peer now (Ok step) due = due
  read_due peer now (Err e) due = ok_refused credit made octets looked.steps looked.short peer now d e looked.reading.exact due
