-- The book that the arrays represent.
use Rattle.std.specs.Prelude.{◌≡◌, ◌+◌, ◌≤◌, ℕ, map, slice_index}
use Rattle.std.specs.VecDeque.{deque_capacity}
use Rattle.call_book.specs.declared.book.CallBook.TheInside.{Inside}
use Rattle.call_book.specs.Book.{Book, IsBook, total_of}

abbrev pub book_of : Inside → Book
book_of a =
    record {
      counts = a.counts.items;
      names = a.names.names;
      partners = a.partners.names;
      free = map (λ q. q.items) a.free.items;
      next = a.next;
    }

pub record IsSound (a : Inside) : Type 0 where
  pub book : IsBook (book_of a)
  -- each number has a place in both tables
  pub names : a.names.places ≡ total_of a.counts.items + 1
  pub partners : a.partners.places ≡ total_of a.counts.items + 1
  -- each list of free numbers has room for all numbers of its peer
  pub room : (peer : ℕ) → slice_index a.counts.items peer ≤ slice_index (map deque_capacity a.free.items) peer
