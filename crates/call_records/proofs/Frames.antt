-- Reading a record from its first entry to its last.
use Rattle.std.proofs.Common.{◌≡◌, ℕ, zero, suc, ◌+◌, ◌<◌, ◌≤◌, List, [], ◌∷◌, length, drop, Option, Some, None, slice_get, refl}
use Rattle.std.proofs.Common.{sym, ap, arith, add-one}
use Rattle.std.proofs.lemmas.Option.{slice_get_within}
use Rattle.std.specs.Prelude.{IfSome, IfNone, OnSome}
use Rattle.std.specs.Option.{option_map}
use Rattle.seq_window.specs.Entry.{Entry, Sent, Acked, Taken}
use Rattle.seq_window.specs.Record.{entry_of}
use Rattle.seq_window.specs.declared.history.EntryView.{EntryView}
use Rattle.call_records.specs.SideFrames.{frames_of}

-- the element at a place is in front of those after it
pub drop_at : {A : Type 0} (xs : List A) (i : ℕ) (x : A) → slice_get xs i ≡ Some x → drop i xs ≡ x ∷ drop (suc i) xs
drop_at [] i x e = absurd cc
drop_at (y ∷ ys) zero x e = let same : y ≡ x = cc in ap (λ z. z ∷ ys) same
drop_at (y ∷ ys) (suc i) x e = drop_at ys i x e

pub drop_past : {A : Type 0} (xs : List A) (i : ℕ) → slice_get xs i ≡ None → drop i xs ≡ []
drop_past [] zero e = refl
drop_past [] (suc i) e = refl
drop_past (y ∷ ys) zero e = absurd cc
drop_past (y ∷ ys) (suc i) e = drop_past ys i e

-- a record has no more frames than entries
pub length-frames_of : (entries : List Entry) → length (frames_of entries) ≤ length entries
length-frames_of [] = omega arith
length-frames_of (Sent frame ∷ entries) = let rest = length-frames_of entries in omega (arith, rest)
length-frames_of (Acked count ∷ entries) = let rest = length-frames_of entries in omega (arith, rest)
length-frames_of (Taken frame ∷ entries) = let rest = length-frames_of entries in omega (arith, rest)

-- the list from a place on, by the entry at that place
pub entry_some : (found : Option EntryView) (entries : List Entry) (i : ℕ) → option_map entry_of found ≡ slice_get entries i
    → IfSome found (λ entry. drop i entries ≡ entry_of entry ∷ drop (i + 1) entries)
entry_some None entries i e = tt
entry_some (Some view) entries i e = rw add-one (drop_at entries i (entry_of view) (sym e))

pub entry_within : (found : Option EntryView) (entries : List Entry) (i : ℕ) → option_map entry_of found ≡ slice_get entries i
    → OnSome found (i < length entries)
entry_within None entries i e = tt
entry_within (Some view) entries i e = slice_get_within entries i (entry_of view) (sym e)

pub entry_none : (found : Option EntryView) (entries : List Entry) (i : ℕ) → option_map entry_of found ≡ slice_get entries i
    → IfNone found (drop i entries ≡ [])
entry_none None entries i e = drop_past entries i (sym e)
entry_none (Some view) entries i e = tt
