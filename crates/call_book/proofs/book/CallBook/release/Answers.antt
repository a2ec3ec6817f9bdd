use Rattle.std.proofs.Common.{◌≡◌, ◌<◌, length, refl, ap, sym, subst, ◌∙◌, arith}
use Rattle.std.proofs.lemmas.List.{length-map}
use Rattle.std.specs.VecDeque.{deque_capacity}
use Rattle.call_book.specs.Book.{IsBook, has_name, released}
use Rattle.std.specs.FinMap.{get}
use Rattle.call_book.specs.Inside.{book_of}
use Rattle.call_book.proofs.FreeLaws.{room_kept, room_for_one}
use Rattle.call_book.proofs.BookLaws.{place_within, stands}
use Rattle.call_book.proofs.Changes.{release_keeps}
use Rattle.call_book.proofs.Partners.{release_shown, released_gone, released_parted}
use Rattle.call_book.proofs.book.CallBook.release.Goals as goal

pub unbridge-requires-clause-number : goal.unbridge-requires-clause-number
unbridge-requires-clause-number c =
    let there = stands (book_of c.self.inside) c.args.self.now c.name-name.result c.contains.result c.self.view_is
    c.self.invariant.book c.contains.ensures.found c.if-not-contains.false in
    omega (arith, there.place, c.self.invariant.partners)

pub unbridge-requires-clause-partner : goal.unbridge-requires-clause-partner
unbridge-requires-clause-partner c = λ partner is.
    let pair = c.self.invariant.book.paired c.name-name.result.number partner (sym c.get-former.ensures ∙ is) in
    omega (arith, place_within (book_of c.self.inside) partner c.self.invariant.book pair.1, c.self.invariant.partners)

pub clear-requires : goal.clear-requires
clear-requires c =
    let there = stands (book_of c.self.inside) c.args.self.now c.name-name.result c.contains.result c.self.view_is
    c.self.invariant.book c.contains.ensures.found c.if-not-contains.false in
    omega (arith, there.place, c.self.invariant.names)

pub index_mut-requires : goal.index_mut-requires
index_mut-requires c =
    let there = stands (book_of c.self.inside) c.args.self.now c.name-name.result c.contains.result c.self.view_is
    c.self.invariant.book c.contains.ensures.found c.if-not-contains.false in
    omega (arith, simp length-map at there.peer, c.from.ensures)

pub push_back_reserved-requires : goal.push_back_reserved-requires
push_back_reserved-requires c =
    let there = stands (book_of c.self.inside) c.args.self.now c.name-name.result c.contains.result c.self.view_is
    c.self.invariant.book c.contains.ensures.found c.if-not-contains.false in
    let lt : c.from.result < length c.self.inside.free.items = omega (arith, simp length-map at there.peer, c.from.ensures) in
    let queue = c.index_mut.result.now in
    omega (
      arith,
      queue.ok.0,
      room_for_one (λ q. q.items) deque_capacity (book_of c.self.inside) c.self.inside.free.items
          c.from.result queue c.name-name.result refl c.self.invariant.book there.has c.from.ensures lt c.index_mut.ensures.value
          c.self.invariant.room,
    )

pub invariant_of-self : goal.invariant_of-self
invariant_of-self c =
    let there = stands (book_of c.self.inside) c.args.self.now c.name-name.result c.contains.result c.self.view_is
    c.self.invariant.book c.contains.ensures.found c.if-not-contains.false in
    let lt : c.from.result < length c.self.inside.free.items = omega (arith, simp length-map at there.peer, c.from.ensures) in
    let shown = release_shown (λ q. q.items) c.self.inside.free.items (book_of c.self.inside) c.clear.new.self.names
    c.unbridge.new.partners.names c.from.result c.index_mut.result.now c.push_back_reserved.new.self
    c.name-name.result c.get-former.result refl (ap (λ t. t.names) c.clear.ensures) c.get-former.ensures
    (ap (λ t. t.names) c.unbridge.ensures) c.from.ensures lt c.index_mut.ensures.value c.push_back_reserved.ensures.items in
    record {
      book = subst IsBook (sym shown) (release_keeps (book_of c.self.inside) c.name-name.result c.self.invariant.book there.has);
      names = rw c.clear.ensures c.self.invariant.names;
      partners = rw c.unbridge.ensures c.self.invariant.partners;
      room = rw (room_kept deque_capacity c.self.inside.free.items c.from.result c.index_mut.result.now
          c.push_back_reserved.new.self lt c.index_mut.ensures.value c.push_back_reserved.ensures.capacity) c.self.invariant.room;
    }

pub returns-clause-ok : goal.returns-clause-ok
returns-clause-ok c =
    let there = stands (book_of c.self.inside) c.args.self.now c.name-name.result c.contains.result c.self.view_is
    c.self.invariant.book c.contains.ensures.found c.if-not-contains.false in
    let lt : c.from.result < length c.self.inside.free.items = omega (arith, simp length-map at there.peer, c.from.ensures) in
    let shown = release_shown (λ q. q.items) c.self.inside.free.items (book_of c.self.inside) c.clear.new.self.names
    c.unbridge.new.partners.names c.from.result c.index_mut.result.now c.push_back_reserved.new.self
    c.name-name.result c.get-former.result refl (ap (λ t. t.names) c.clear.ensures) c.get-former.ensures
    (ap (λ t. t.names) c.unbridge.ensures) c.from.ensures lt c.index_mut.ensures.value c.push_back_reserved.ensures.items in
    shown ∙ ap (λ b. released b c.name-name.result) c.self.view_is ∙ ap (released c.args.self.now) c.name-name.ensures

pub returns-clause-gone : goal.returns-clause-gone
returns-clause-gone c = ap (λ b. has_name b c.args.lease) (returns-clause-ok c) ∙ released_gone c.args.self.now c.args.lease

pub returns-clause-parted : goal.returns-clause-parted
returns-clause-parted c =
    let former : c.get-former.result ≡ get c.args.self.now.partners c.args.lease.number =
    c.get-former.ensures ∙ ap (λ b. get b.partners c.name-name.result.number) c.self.view_is
    ∙ ap (λ n. get c.args.self.now.partners n.number) c.name-name.ensures in
    released_parted c.args.self.now _ c.args.lease c.get-former.result (returns-clause-ok c) former

pub returns-clause-sound : goal.returns-clause-sound
returns-clause-sound c = (invariant_of-self c).book
