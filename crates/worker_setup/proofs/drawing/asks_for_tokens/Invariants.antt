use Rattle.std.proofs.Common.{◌≡◌, ◌<◌, ℕ, Some, None, option_map}
use Rattle.std.specs.Prelude.{slice_get}
use Rattle.worker_setup.proofs.drawing.asks_for_tokens.Given as goal

abbrev pub invariant-loop-place : goal.invariant-loop-place
invariant-loop-place l =
    (place : ℕ) → place < l.place → option_map (λ peer. peer.rules.call_tokens) (slice_get l.plan.peers place) ≡ Some None
