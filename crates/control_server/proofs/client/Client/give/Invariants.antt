use Rattle.std.proofs.Common.{◌≡◌, ◌≢◌, ◌⊎◌}
use Rattle.control_server.specs.Clients.{WasServed, WasSpoken}
use Rattle.control_server.specs.declared.client.ClientStage.TheVariants.{Answered}
use Rattle.control_server.proofs.client.Client.give.Given as goal

abbrev pub invariant-loop : goal.invariant-loop
invariant-loop l = record {
  served : WasServed l.initial.self l.self;
  spoken : l.initial.self.stage ≡ Answered → WasSpoken l.initial.self l.self;
  output : l.self.output ≡ l.initial.self.output;
  active : (l.self.active ≡ l.initial.self.active) ⊎ (l.self.active ≡ l.now);
  others : l.initial.self.stage ≢ Answered → l.self ≡ l.initial.self;
}
