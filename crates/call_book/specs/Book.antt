-- The book of calls: the leg of each number, the bridges, and the free numbers.
use Rattle.std.specs.Prelude.{◌≡◌, ◌≢◌, ℕ, ◌+◌, ◌-◌, ◌*◌, ◌^◌, ◌<◌, ◌≤◌, ◌==◌, ◌&&◌, Bool, false, not, is_some, List, [], ◌∷◌}
use Rattle.std.specs.Prelude.{◌++◌, Option, Some, None, Result, Ok, Err, IsSome, Contains, length, slice_index_or, slice_set}
use Rattle.std.specs.Prelude.{if◌then◌else◌, refl}
use Rattle.std.specs.List.{AllByRecursion}
use Rattle.std.specs.Ordering.{nat_cmp}
use Rattle.std.specs.Coded.{Coded, code_by, coded×, coded_ℕ, coded_list}
use Rattle.std.specs.FinMap.{FinMap, empty, get, insert, remove, code as map_code}
use Rattle.call_book.specs.Table.{name_code}
pub use Rattle.call_book.specs.Ranges.{IsCount, IsNumberOf, first_number, total_of, ranges_from}
use Rattle.call_book.specs.declared.leg_name.LegName.{LegName}
use Rattle.call_book.specs.declared.errors.ReserveError.{ReserveError}
use Rattle.call_book.specs.declared.errors.ReserveError.TheVariants.{SerialsSpent, NoNumber}
use Rattle.call_book.specs.declared.errors.BridgeError.{BridgeError}
use Rattle.call_book.specs.declared.errors.BridgeError.TheVariants.{Same, Stale, Bridged}
use Rattle.call_book.specs.declared.errors.Stale.{Stale as Unknown}

pub record Book : Type 0 where
  -- the count of each peer's numbers
  pub counts : List ℕ
  -- the leg that has each number
  pub names : FinMap nat_cmp LegName
  -- the partner of the leg that has each number
  pub partners : FinMap nat_cmp LegName
  -- the free numbers of each peer, the one freed longest ago first
  pub free : List (List ℕ)
  -- the serial of the next name
  pub next : ℕ

abbrev pub book_code : Coded Book
book_code =
    code_by (List ℕ × (FinMap nat_cmp LegName × (FinMap nat_cmp LegName × (List (List ℕ) × ℕ))))
    (coded× (coded_list coded_ℕ)
    (coded× (map_code coded_ℕ name_code)
    (coded× (map_code coded_ℕ name_code) (coded× (coded_list (coded_list coded_ℕ)) coded_ℕ))))
    (λ b. (b.counts, (b.names, (b.partners, (b.free, b.next)))))
    (λ p. record { counts = p.0; names = p.1.0; partners = p.1.1.0; free = p.1.1.1.0; next = p.1.1.1.1 }) (λ _. refl)

-- the book has this very name
abbrev pub is_name_in : Option LegName → LegName → Bool
is_name_in None name = false
is_name_in (Some found) name = (found.peer == name.peer && found.number == name.number) && found.serial == name.serial

abbrev pub has_name : Book → LegName → Bool
has_name book name = is_name_in (get book.names name.number) name

abbrev pub free_of : Book → ℕ → List ℕ
free_of book peer = slice_index_or book.free peer []

-- the numbers are of the peer, no leg has one of them, and none is listed twice
abbrev pub AreFree : List ℕ → FinMap nat_cmp LegName → ℕ → List ℕ → Type 0
AreFree counts names peer [] = Unit {0}
AreFree counts names peer (n ∷ ns) =
    IsNumberOf counts peer n × (get names n ≡ None) × AllByRecursion (λ m. m ≢ n) ns × AreFree counts names peer ns

-- the invariant of every book
pub record IsBook (book : Book) : Type 0 where
  -- the ranges are within 1 ..= 16,384, and each peer has a list of free numbers
  pub limit : total_of book.counts ≤ 32 * 512
  pub peers : length book.free ≡ length book.counts
  -- a name is at its number, which is one of its peer's, and has a serial that was given out
  pub placed : (n : ℕ) (a : LegName) → get book.names n ≡ Some a →
      (a.number ≡ n) × IsNumberOf book.counts a.peer n × (a.serial < book.next)
  -- a serial is given out once
  pub serials : (m n : ℕ) (a b : LegName) → get book.names m ≡ Some a → get book.names n ≡ Some b → a.serial ≡ b.serial → m ≡ n
  -- partners are of each other, and in the book
  pub paired : (n : ℕ) (b : LegName) → get book.partners n ≡ Some b →
      (b.number ≢ n) × (get book.names b.number ≡ Some b) × IsSome (get book.names n) ×
      (get book.partners b.number ≡ get book.names n)
  -- each number listed as free is free, and listed once
  pub free : (peer : ℕ) → AreFree book.counts book.names peer (free_of book peer)
  -- a number without a leg is listed as free
  pub every : (peer n : ℕ) → IsNumberOf book.counts peer n → get book.names n ≡ None → Contains (free_of book peer) n

-- a book in which every number is free
abbrev pub fresh_book : List ℕ → ℕ → Book
fresh_book counts serial =
    record { counts = counts; names = empty; partners = empty; free = ranges_from 1 counts; next = serial }

-- the name that a peer gets next
abbrev pub next_name : Book → ℕ → List ℕ → Result LegName ReserveError
next_name book peer [] = Err NoNumber
next_name book peer (n ∷ rest) = Ok (record { peer = peer; number = n; serial = book.next })

abbrev pub reserve_answer : Book → ℕ → Result LegName ReserveError
reserve_answer book peer = if book.next == 2 ^ 64 - 1 then Err SerialsSpent else next_name book peer (free_of book peer)

-- the book once the name is taken
abbrev pub taken : Book → Result LegName ReserveError → List ℕ → Book
taken book (Err e) rest = book
taken book (Ok name) rest =
    record book { names = insert book.names name.number name; free = slice_set book.free name.peer rest; next = book.next + 1 }

abbrev pub tail : List ℕ → List ℕ
tail [] = []
tail (n ∷ rest) = rest

abbrev pub after_reserve : Book → ℕ → Book
after_reserve book peer = taken book (reserve_answer book peer) (tail (free_of book peer))

abbrev pub is_same : LegName → LegName → Bool
is_same a b = (a.peer == b.peer && a.number == b.number) && a.serial == b.serial

abbrev pub bridge_answer : Book → LegName → LegName → Result (Unit {0}) BridgeError
bridge_answer book a b =
    if is_same a b then Err Same
    else if not (has_name book a && has_name book b) then Err Stale
    else if not (is_some (get book.partners a.number)) && not (is_some (get book.partners b.number)) then Ok tt
    else Err Bridged

-- the book once the two are partners
abbrev pub bridged : Book → LegName → LegName → Book
bridged book a b = record book { partners = insert (insert book.partners a.number b) b.number a }

-- the book after a bridge with this answer
abbrev pub after_bridge : Book → LegName → LegName → Result (Unit {0}) BridgeError → Book
after_bridge book a b (Ok done) = bridged book a b
after_bridge book a b (Err error) = book

-- the partner of a name that the book has
abbrev pub partner_of : Book → LegName → Option LegName
partner_of book name = if has_name book name then get book.partners name.number else None

-- the book once a name is returned: its number is free again, at the end, and its bridge is removed on both sides
abbrev pub unbridged : FinMap nat_cmp LegName → ℕ → Option LegName → FinMap nat_cmp LegName
unbridged partners number None = partners
unbridged partners number (Some partner) = remove (remove partners number) partner.number

abbrev pub released : Book → LegName → Book
released book name =
    record book {
      names = remove book.names name.number;
      partners = unbridged book.partners name.number (get book.partners name.number);
      free = slice_set book.free name.peer (free_of book name.peer ++ name.number ∷ []);
    }

-- the book after a release of a name that it has or not, and its answer
abbrev pub after_release : Book → LegName → Bool → Book
after_release book name known = if known then released book name else book

abbrev pub release_answer : Book → LegName → Bool → Result (Option LegName) Unknown
release_answer book name known = if known then Ok (partner_of book name) else Err (record {})
