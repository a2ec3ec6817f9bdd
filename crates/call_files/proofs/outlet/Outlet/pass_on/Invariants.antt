use Rattle.std.proofs.Common.{◌≡◌}
use Rattle.call_files.specs.Outlets.{all_of}
use Rattle.call_files.proofs.outlet.Outlet.pass_on.Given as goal

abbrev pub invariant-loop : goal.invariant-loop
invariant-loop g l = (all_of l.self ≡ all_of l.initial.self) × (l.self.room ≡ l.initial.self.room)
