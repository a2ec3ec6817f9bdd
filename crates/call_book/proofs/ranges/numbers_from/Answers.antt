use Rattle.std.proofs.Common.{◌≡◌, suc, ◌+◌, ◌-◌, ◌++◌, ◌∷◌, [], ap, sym, ◌∙◌, arith}
use Rattle.std.specs.List.{range_with_len}
use Rattle.call_book.proofs.FreeLaws.{one_more_number}
use Rattle.call_book.proofs.ranges.numbers_from.Goals as goal

pub loop-number-preserved : goal.loop-number-preserved
loop-number-preserved c =
    let so_far = c.loop-number.number - c.args.first in
    let at : c.loop-number.number ≡ c.args.first + so_far = omega arith in
    let next : suc so_far ≡ c.loop-number.number + 1 - c.args.first = omega arith in (
      c.push_back_reserved.ensures.items ∙ ap (λ ns. ns ++ c.loop-number.number ∷ []) c.loop-number.invariant.0
          ∙ ap (λ n. range_with_len c.args.first so_far ++ n ∷ []) at
          ∙ sym (one_more_number c.args.first so_far) ∙ ap (range_with_len c.args.first) next,
      omega arith,
      c.push_back_reserved.ensures.capacity ∙ c.loop-number.invariant.2,
    )
