use Rattle.std.proofs.Common.{◌≡◌, ◌≤◌, length}
use Rattle.std.specs.Option.{option_copied}
use Rattle.std.specs.Prelude.{IfSome}
use Rattle.info_elements.specs.Element.{last_of, or, elements_of}
use Rattle.info_elements.proofs.element_list.last_in.Given as goal

abbrev pub invariant-loop-first : goal.invariant-loop-first
invariant-loop-first l =
    (or (last_of l.number (elements_of l.rest)) (option_copied l.found) ≡ last_of l.number (elements_of l.fn.octets))
    × IfSome l.found (λ value. length value.now ≤ 255)

abbrev pub decreases-loop-first : goal.decreases-loop-first
decreases-loop-first l = length l.rest
