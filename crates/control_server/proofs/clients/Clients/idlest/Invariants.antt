use Rattle.std.proofs.Common.{◌≡◌, true, IfSome, slice_get}
use Rattle.control_server.specs.Clients.{gives_way}
use Rattle.control_server.proofs.clients.Clients.idlest.Given as goal

abbrev pub invariant-loop-place : goal.invariant-loop-place
invariant-loop-place l =
    IfSome l.found (λ found. IfSome (slice_get l.client-items found.0) (λ client. gives_way l.now client ≡ true))
