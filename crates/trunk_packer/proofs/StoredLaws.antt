-- The entries in a ring are a text of items.
use Rattle.std.proofs.Common.{◌≡◌, ℕ, ◌+◌, ◌*◌, ◌<◌, ◌≤◌, Bool, true, false, cond, ◌&&◌, ltb, leb, List, [], ◌∷◌, ◌++◌, length}
use Rattle.std.proofs.Common.{take, drop, get_or, Some, None, refl, sym, ap, subst, ◌∙◌, arith, length-append}
use Rattle.std.specs.Int.{w16, to_be_bytes}
use Rattle.std.specs.List.{flat_map}
use Rattle.std.proofs.lemmas.Bool.{ltb-true, leb-true, lt-ltb, le-leb, and_parts}
use Rattle.std.proofs.lemmas.List.{take_at, drop_at, take-append-drop, length-take, length-drop}
use Rattle.iax_frames.specs.Octets.{u16_at}
use Rattle.iax_frames.proofs.OctetLaws.{IsOctets, cell_16, back_16, front_6}
use Rattle.iax_frames.proofs.ItemLaws.{IsFormat}
use Rattle.trunk_packer.specs.Queue.{QueueEntry, media_octets}
use Rattle.trunk_packer.specs.Stored.{stored, IsStored, begins_stored, first_stored}

pair_is : (b : Bool) (x y : QueueEntry × List ℕ) → cond b (Some x) None ≡ Some y → (b ≡ true) × (x ≡ y)
pair_is true x y e = (refl, cc)
pair_is false x y e = absurd cc

begins : (item : QueueEntry) (rest : List ℕ) → IsStored item → begins_stored (stored item ++ rest) ≡ true
begins item rest is =
    let number = back_16 item.number (omega (arith, is.number)) in
    let len = back_16 (length item.media) (omega (arith, is.media)) in
    let whole : leb (6 + u16_at (stored item ++ rest) 2) (length (stored item ++ rest)) ≡ true =
    le-leb (6 + u16_at (stored item ++ rest) 2) (length (stored item ++ rest))
    (omega (arith, len, length-append item.media rest)) in
    let below : ltb (u16_at (stored item ++ rest) 0) 32768 ≡ true = lt-ltb (u16_at (stored item ++ rest) 0) 32768
    (omega (arith, number, is.number)) in
    let short : leb (u16_at (stored item ++ rest) 2) 1380 ≡ true = le-leb (u16_at (stored item ++ rest) 2) 1380
    (omega (arith, len, is.media)) in
    λ i. (whole i && below i) && short i

again : (item : QueueEntry) (rest : List ℕ) → IsStored item → first_stored (stored item ++ rest) ≡ Some (item, rest)
again item rest is =
    let number = back_16 item.number (omega (arith, is.number)) in
    let len = back_16 (length item.media) (omega (arith, is.media)) in
    let time = back_16 item.timestamp is.timestamp in
    let test = begins item rest is in
    let media = ap (λ (n : ℕ). take n (item.media ++ rest)) len ∙ take_at item.media rest (length item.media) refl in
    let others = ap (λ (n : ℕ). drop n (item.media ++ rest)) len ∙ drop_at item.media rest (length item.media) refl in
    λ i. cond (test i) (Some (record { number = number i; timestamp = time i; media = media i }, others i)) None

takes : (bytes : List ℕ) (item : QueueEntry) (rest : List ℕ) → IsOctets bytes → first_stored bytes ≡ Some (item, rest)
    → IsStored item × (bytes ≡ stored item ++ rest)
takes bytes item rest o e =
    let made : QueueEntry = record {
      number = u16_at bytes 0;
      timestamp = u16_at bytes 4;
      media = take (u16_at bytes 2) (drop 6 bytes);
    } in
    let p = pair_is (begins_stored bytes) (made, drop (u16_at bytes 2) (drop 6 bytes)) (item, rest) e in
    let tests = and_parts (leb (6 + u16_at bytes 2) (length bytes) && ltb (u16_at bytes 0) 32768) (leb (u16_at bytes 2) 1380)
    p.0 in
    let more = and_parts (leb (6 + u16_at bytes 2) (length bytes)) (ltb (u16_at bytes 0) 32768) tests.0 in
    let long : 6 + u16_at bytes 2 ≤ length bytes = leb-true (6 + u16_at bytes 2) (length bytes) more.0 in
    let below : u16_at bytes 0 < 32768 = ltb-true (u16_at bytes 0) 32768 more.1 in
    let short : u16_at bytes 2 ≤ 1380 = leb-true (u16_at bytes 2) 1380 tests.1 in
    let size : length (take (u16_at bytes 2) (drop 6 bytes)) ≡ u16_at bytes 2 =
    omega (arith, length-take (u16_at bytes 2) (drop 6 bytes), length-drop 6 bytes) in
    let a = cell_16 (get_or bytes 0 0) (get_or bytes 1 0) (o 0) (o 1) in
    let b : to_be_bytes w16 (length (take (u16_at bytes 2) (drop 6 bytes))) ≡ get_or bytes 2 0 ∷ get_or bytes 3 0 ∷ [] =
    ap (to_be_bytes w16) size ∙ cell_16 (get_or bytes 2 0) (get_or bytes 3 0) (o 2) (o 3) in
    let c = cell_16 (get_or bytes 4 0) (get_or bytes 5 0) (o 4) (o 5) in
    let joined = take-append-drop (u16_at bytes 2) (drop 6 bytes) in
    let is : IsStored made = record {
      number = below;
      timestamp = omega (arith, o 4, o 5);
      media = omega (arith, size, short);
    } in
    let whole : bytes ≡ stored made ++ drop (u16_at bytes 2) (drop 6 bytes) =
    front_6 bytes (omega (arith, long))
    ∙ sym ((λ i. ((a i ++ b i ++ c i) ++ take (u16_at bytes 2) (drop 6 bytes)) ++ drop (u16_at bytes 2) (drop 6 bytes))
    ∙ λ i. get_or bytes 0 0 ∷ get_or bytes 1 0 ∷ get_or bytes 2 0 ∷ get_or bytes 3 0 ∷ get_or bytes 4 0 ∷ get_or bytes 5 0
    ∷ joined i) in
    subst (λ (q : QueueEntry × List ℕ). IsStored q.0 × (bytes ≡ stored q.0 ++ q.1)) p.1 (is, whole)

pub format : IsFormat stored IsStored first_stored
format = record { again = again; takes = takes; some = λ item. omega arith; none = refl }

-- six octets for each entry, and its media
pub length-stored : (queue : List QueueEntry) → length (flat_map stored queue) ≡ 6 * length queue + media_octets queue
length-stored [] = refl
length-stored (e ∷ es) = omega (arith, length-stored es, length-append (stored e) (flat_map stored es))
