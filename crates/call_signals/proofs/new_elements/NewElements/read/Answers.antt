use Rattle.std.proofs.Common.{◌∙◌, sym, ap, rules}
use Rattle.info_elements.specs.Element.{Element, elements_of}
use Rattle.call_signals.specs.NewElements.{NewElements, named}
use Rattle.call_signals.proofs.ElementsRead.{with_elements, with_elements-more, with_elements-none}
use Rattle.call_signals.proofs.new_elements.NewElements.read.Goals as goal

pub loop-number-init : goal.loop-number-init
loop-number-init c = (with_elements-none (elements_of c.args.octets.now), search rules, search rules, search rules)

pub loop-number-preserved : goal.loop-number-preserved
loop-number-preserved c =
    let before = named c.loop-number.elements in
    let e : Element = record { number = c.in-Some.number; value = c.in-Some.value.now } in
    let es = elements_of c.in-Some.after.now in (
      ap (λ (read : NewElements). with_elements read es) c.with-elements.ensures.elements
          ∙ with_elements-more before e es ∙ ap (with_elements before) (sym c.in-Some.ensures.front) ∙ c.loop-number.invariant.0,
      c.with-elements.ensures.called,
      c.with-elements.ensures.calling,
      c.with-elements.ensures.name,
    )
