use Rattle.std.proofs.Common.{◌≡◌, ◌-◌, ◌^◌, min, take}
use Rattle.std.specs.Prelude.{sum_by}
use Rattle.control_server.specs.Clients.{kept_of}
use Rattle.control_server.proofs.clients.Clients.kept.Given as goal

abbrev pub invariant-loop-client : goal.invariant-loop-client
invariant-loop-client l = l.kept ≡ min (sum_by kept_of (take l.client-index l.client-items)) (2 ^ 64 - 1)
