use Rattle.std.proofs.Common.{◌≡◌, ◌≢◌, ◌<◌, ◌⊎◌, vec_len}
use Rattle.control_server.specs.Clients.{WasHeard}
use Rattle.control_server.specs.declared.client.ClientStage.TheVariants.{Asking, Answered}
use Rattle.control_server.proofs.client.Client.take.Given as goal

abbrev pub invariant-loop : goal.invariant-loop
invariant-loop l = record {
  heard : WasHeard l.initial.self l.self;
  later : l.initial.self.stage ≢ Asking → l.self.input ≡ l.initial.self.input;
  answered : l.initial.self.stage ≡ Answered → l.self ≡ l.initial.self;
  active : (l.self.active ≡ l.initial.self.active) ⊎ (l.self.active ≡ l.now);
  bounded : vec_len l.initial.self.input < 16384 → vec_len l.self.input < 16384;
}
