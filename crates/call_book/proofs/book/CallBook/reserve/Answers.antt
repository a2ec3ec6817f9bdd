use Rattle.std.proofs.Common.{◌≡◌, ◌<◌, length, map, None, ap, subst, ◌∙◌, arith}
use Rattle.std.proofs.lemmas.List.{length-map, map-set}
use Rattle.std.specs.VecDeque.{deque_capacity}
use Rattle.call_book.specs.Book.{IsNumberOf, after_reserve}
use Rattle.std.specs.FinMap.{get}
use Rattle.call_book.specs.Inside.{book_of}
use Rattle.call_book.proofs.RangeLaws.{number_within}
use Rattle.call_book.proofs.FreeLaws.{room_kept}
use Rattle.call_book.proofs.BookLaws.{front_is, not_last, reserve_keeps, after_reserve_is}
use Rattle.call_book.proofs.book.CallBook.reserve.Goals as goal

pub put-requires : goal.put-requires
put-requires c =
    let front = front_is (λ q. q.items) c.self.inside.free.items c.index-place.result c.args.peer c.unwrap-number.result
    c.index_mut-queue.result.now c.pop_front.result c.pop_front.new.self.items
    c.index-place.ensures (omega arith) c.index_mut-queue.ensures.value c.pop_front.ensures.items c.unwrap-number.ensures in
    let first = rw front at (c.self.invariant.book.free c.args.peer) in
    omega (arith, number_within c.self.inside.counts.items c.args.peer c.unwrap-number.result first.0, c.self.invariant.names)

pub invariant_of-self : goal.invariant_of-self
invariant_of-self c =
    let lt : c.index-place.result < length c.self.inside.free.items = omega arith in
    let front = front_is (λ q. q.items) c.self.inside.free.items c.index-place.result c.args.peer c.unwrap-number.result
    c.index_mut-queue.result.now c.pop_front.result c.pop_front.new.self.items
    c.index-place.ensures lt c.index_mut-queue.ensures.value c.pop_front.ensures.items c.unwrap-number.ensures in
    let peer_lt : c.args.peer < length (map (λ q. q.items) c.self.inside.free.items) =
    rw length-map (omega (arith, c.index-place.ensures)) in
    record {
      book = rw (
        c.put.ensures,
        map-set (λ q. q.items) c.self.inside.free.items c.index-place.result c.pop_front.new.self,
        c.index-place.ensures,
        c.get.ensures,
      )
          (reserve_keeps (book_of c.self.inside) c.args.peer c.unwrap-number.result c.pop_front.new.self.items peer_lt front
          c.self.invariant.book);
      names = rw c.put.ensures c.self.invariant.names;
      partners = c.self.invariant.partners;
      room = rw (room_kept deque_capacity c.self.inside.free.items c.index-place.result c.index_mut-queue.result.now
          c.pop_front.new.self lt c.index_mut-queue.ensures.value c.pop_front.ensures.capacity) c.self.invariant.room;
    }

pub returns-clause-book : goal.returns-clause-book
returns-clause-book c =
    let front = front_is (λ q. q.items) c.self.inside.free.items c.index-place.result c.args.peer c.unwrap-number.result
    c.index_mut-queue.result.now c.pop_front.result c.pop_front.new.self.items
    c.index-place.ensures (omega arith) c.index_mut-queue.ensures.value c.pop_front.ensures.items c.unwrap-number.ensures in
    rw (
      c.put.ensures,
      map-set (λ q. q.items) c.self.inside.free.items c.index-place.result c.pop_front.new.self,
      c.index-place.ensures,
      c.get.ensures,
    )
    (after_reserve_is (book_of c.self.inside) c.args.peer c.unwrap-number.result c.pop_front.new.self.items
    (not_last c.self.inside.next c.if-self.false) front
    ∙ ap (λ b. after_reserve b c.args.peer) c.self.view_is)

pub returns-clause-range : goal.returns-clause-range
returns-clause-range c =
    let front = front_is (λ q. q.items) c.self.inside.free.items c.index-place.result c.args.peer c.unwrap-number.result
    c.index_mut-queue.result.now c.pop_front.result c.pop_front.new.self.items
    c.index-place.ensures (omega arith) c.index_mut-queue.ensures.value c.pop_front.ensures.items c.unwrap-number.ensures in
    let first = rw front at (c.self.invariant.book.free c.args.peer) in
    rw c.on.ensures (c.get.ensures, subst (λ b. IsNumberOf b.counts c.args.peer c.unwrap-number.result) c.self.view_is first.0)

pub returns-clause-unused : goal.returns-clause-unused
returns-clause-unused c =
    let front = front_is (λ q. q.items) c.self.inside.free.items c.index-place.result c.args.peer c.unwrap-number.result
    c.index_mut-queue.result.now c.pop_front.result c.pop_front.new.self.items
    c.index-place.ensures (omega arith) c.index_mut-queue.ensures.value c.pop_front.ensures.items c.unwrap-number.ensures in
    let first = rw front at (c.self.invariant.book.free c.args.peer) in
    rw c.on.ensures (subst (λ b. get b.names c.unwrap-number.result ≡ None) c.self.view_is first.1)

pub returns-clause-sound : goal.returns-clause-sound
returns-clause-sound c = (invariant_of-self c).book
