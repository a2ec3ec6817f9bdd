use Rattle.std.proofs.Common.{◌∙◌, sym, ap, List}
use Rattle.std.specs.Option.{option_copied}
use Rattle.info_elements.specs.Element.{Element, or, last_of, elements_of}
use Rattle.info_elements.proofs.ElementLaws.{last_of-found, last_of-passed}
use Rattle.info_elements.proofs.element_list.last_in.Goals as goal

pub loop-first-preserved-then-first-number : goal.loop-first-preserved-then-first-number
loop-first-preserved-then-first-number c =
    let e : Element = record { number = c.in-Some.first; value = c.in-Some.value.now } in
    let found = option_copied c.loop-first.found in (
      sym (last_of-found c.args.number e (elements_of c.in-Some.after.now) found c.if-first-number.true)
          ∙ ap (λ (es : List Element). or (last_of c.args.number es) found) (sym c.in-Some.ensures.front)
          ∙ c.loop-first.invariant.0,
      c.in-Some.ensures.short,
    )

pub loop-first-preserved : goal.loop-first-preserved
loop-first-preserved c =
    let e : Element = record { number = c.in-Some.first; value = c.in-Some.value.now } in
    let found = option_copied c.loop-first.found in (
      sym (last_of-passed c.args.number e (elements_of c.in-Some.after.now) found c.if-first-number.false)
          ∙ ap (λ (es : List Element). or (last_of c.args.number es) found) (sym c.in-Some.ensures.front)
          ∙ c.loop-first.invariant.0,
      c.loop-first.invariant.1,
    )

pub returns-clause-last : goal.returns-clause-last
returns-clause-last c =
    ap (λ (es : List Element). or (last_of c.args.number es) (option_copied c.loop-first.found)) (sym c.in_default.ensures.ended)
    ∙ c.loop-first.invariant.0
