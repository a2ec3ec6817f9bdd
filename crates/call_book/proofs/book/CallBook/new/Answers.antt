use Rattle.std.proofs.Common.{◌≡◌, ◌<◌, ◌≤◌, ◌+◌, ◌*◌, length, take, refl, ap, arith}
use Rattle.std.proofs.lemmas.List.{take_all}
use Rattle.std.specs.VecDeque.{deque_capacity}
use Rattle.call_book.specs.Ranges.{total_of}
use Rattle.call_book.proofs.FreeLaws.{one_more_range, fresh_is_book}
use Rattle.call_book.proofs.RangeLaws.{total_within}
use Rattle.call_book.proofs.book.CallBook.new.Goals as goal

pub loop-count-preserved : goal.loop-count-preserved
loop-count-preserved c =
    let lt : c.loop-count.count-index < length c.args.counts.now = omega arith in
    let queue = c.in_ok-numbers_from.field-0 in
    let more = one_more_range (λ q. q.items) deque_capacity c.loop-count.free.items c.push.new.list.items queue c.args.counts.now
    c.loop-count.count-index c.loop-count.first _
    c.in_ok-push.ensures.items lt refl c.in_ok-numbers_from.ensures.numbers c.in_ok-numbers_from.ensures.room
    c.loop-count.invariant.0 c.loop-count.invariant.1 c.loop-count.invariant.2 in
    (more.0, more.1, more.2, omega (arith, c.loop-count.invariant.3, (c.requires.counts c.loop-count.count-index 0 lt).1))

pub invariant_of-result : goal.invariant_of-result
invariant_of-result c =
    let counts = c.args.counts.now in
    let all : take c.loop-count.count-index counts ≡ counts = take_all c.loop-count.count-index counts (omega arith) in
    let kept : c.in_ok-copied.field-0.items ≡ counts = c.in_ok-copied.ensures.items in
    let limit : total_of counts ≤ 32 * 512 = omega (
      arith,
      total_within counts 512 (λ i lt. (c.requires.counts i 0 lt).1),
      c.requires.peers,
    ) in
    let places : c.from-places.result ≡ total_of counts + 1 = omega (
      arith,
      c.from-places.ensures,
      c.loop-count.invariant.2,
      ap total_of all,
    ) in
    record {
      book = rw (kept, c.in_ok-new.ensures.empty, c.in_ok-new-2.ensures.empty, c.loop-count.invariant.0, all)
          (fresh_is_book counts c.args.first_serial limit);
      names = rw (kept, c.in_ok-new.ensures.empty) places;
      partners = rw (kept, c.in_ok-new-2.ensures.empty) places;
      room = rw (kept, c.loop-count.invariant.1, all) (λ peer. omega arith);
    }

pub returns-clause-sound : goal.returns-clause-sound
returns-clause-sound c = (invariant_of-result c).book
