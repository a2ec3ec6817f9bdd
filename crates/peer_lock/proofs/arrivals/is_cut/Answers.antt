use Rattle.std.proofs.Common.{rules, subst, sym}
use Rattle.info_elements.specs.Element.{IsElementCutAt}
use Rattle.peer_lock.proofs.arrivals.is_cut.Goals as goal

pub returns-in-Ok : goal.returns-in-Ok
returns-in-Ok c = (
  (λ wrong. search rules),
  (λ cut. let clash = c.in-Ok.ensures.only_cut cut.1.0 (subst (λ octets. IsElementCutAt octets cut.1.0) (sym c.payload.ensures)
      cut.1.1) in search rules),
)
