use Rattle.std.proofs.Common.{◌≡◌, ◌++◌, drop}
use Rattle.service_state.specs.PeerMetrics.{families_text}
use Rattle.service_state.proofs.metrics.Metrics.push_families.Given as goal

abbrev pub invariant-loop-figure : goal.invariant-loop-figure
invariant-loop-figure l =
    l.self ++ families_text (drop l.figure-index l.figures) l.peers ≡ l.initial.self ++ families_text l.figures l.peers
