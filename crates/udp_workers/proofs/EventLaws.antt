-- Laws of the events that a watch receives.
use Rattle.std.proofs.Common.{◌≡◌, sym, ap, ◌∙◌, ◌∷◌}
use Rattle.std.proofs.Math.Logic.{∥∥₁_map}
use Rattle.std.proofs.lemmas.List.Elements.{All-cons}
use Rattle.udp_workers.specs.Events.{Tells, counted}
use Rattle.udp_workers.specs.declared.report.TurnReport.{TurnReport}
use Rattle.exchange_core.specs.declared.watch.Event.{Event}

-- one more event is reported and counted
pub tells_more : (observed : Event → Type 0) (report new : TurnReport) (event : Event) → observed event → new ≡ counted report event
    → ∥ Tells observed report ∥₁ → ∥ Tells observed new ∥₁
tells_more observed report new event this is before = ∥∥₁_map before (λ tells. record {
  events = event ∷ tells.events;
  each = All-cons observed event tells.events this tells.each;
  counts = ap (λ so_far. counted so_far event) tells.counts ∙ sym is;
})
