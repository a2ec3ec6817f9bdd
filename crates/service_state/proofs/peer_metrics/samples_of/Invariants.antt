use Rattle.std.proofs.Common.{◌≡◌, ◌++◌, drop}
use Rattle.std.specs.List.{flat_map}
use Rattle.service_state.specs.Figures.{family_of}
use Rattle.service_state.specs.Metrics.{sample_text}
use Rattle.service_state.specs.PeerMetrics.{figure_line}
use Rattle.service_state.proofs.peer_metrics.samples_of.Given as goal

abbrev pub invariant-loop-peer : goal.invariant-loop-peer
invariant-loop-peer l =
    flat_map (sample_text (family_of l.figure).1) l.samples.items ++ flat_map (figure_line l.figure) (drop l.peer-index l.peers)
    ≡ flat_map (figure_line l.figure) l.peers
