use Rattle.std.proofs.Common.{arith}
use Rattle.std.proofs.lemmas.Option.{IfSome_then}
use Rattle.info_elements.proofs.ElementLaws.{elements_of-more, elements_of-none, if_none}
use Rattle.info_elements.proofs.element_list.next_element.Goals as goal

pub returns-clause-front : goal.returns-clause-front
returns-clause-front c =
    IfSome_then c.split_element.result c.split_element.ensures.some
    (λ found is. elements_of-more c.args.octets.now found.2.now _ (λ i. omega (arith, c.type_inv.octets i)) is)

pub returns-clause-ended : goal.returns-clause-ended
returns-clause-ended c = if_none c.split_element.result (elements_of-none c.args.octets.now) c.split_element.ensures.none
