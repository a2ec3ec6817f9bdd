use Rattle.std.specs.Prelude.{option_map}
use Rattle.std.proofs.Common.{ap, sym, ◌∙◌}
use Rattle.call_control.specs.Beginnings.{beginning_at}
use Rattle.exchange_core.specs.declared.denial.Denial.TheVariants as denials
use Rattle.exchange_core.proofs.Denying.{never_stranger}
use Rattle.exchange_core.proofs.exchange.Exchange.datagram_of.Goals as goal

pub returns-clause-known : goal.returns-clause-known
returns-clause-known g c =
    λ is. never_stranger _ _ (beginning_at c.of_datagram-work.result.work.place) c.carry_out-outcome.result.denial
    c.carry_out-outcome.ensures.denied
    (sym c.refused_by.ensures.reason ∙ ap (option_map denials.Call) is)
