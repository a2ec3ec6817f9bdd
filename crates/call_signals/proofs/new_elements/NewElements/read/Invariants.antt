use Rattle.std.proofs.Common.{◌≡◌, ◌≤◌, length}
use Rattle.std.specs.Prelude.{IfSome}
use Rattle.info_elements.specs.Element.{elements_of}
use Rattle.call_signals.specs.NewElements.{named, new_elements}
use Rattle.call_signals.proofs.ElementsRead.{with_elements}
use Rattle.call_signals.proofs.new_elements.NewElements.read.Given as goal

-- those read so far and those of the rest are all of them
abbrev pub invariant-loop-number : goal.invariant-loop-number
invariant-loop-number l =
    (with_elements (named l.elements) (elements_of l.rest) ≡ new_elements l.fn.octets)
    × IfSome l.elements.called (λ text. length text.now ≤ 255)
    × IfSome l.elements.calling (λ text. length text.now ≤ 255)
    × IfSome l.elements.name (λ text. length text.now ≤ 255)

abbrev pub decreases-loop-number : goal.decreases-loop-number
decreases-loop-number l = length l.rest
