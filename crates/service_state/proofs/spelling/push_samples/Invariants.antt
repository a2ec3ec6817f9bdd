use Rattle.std.proofs.Common.{◌≡◌, ◌++◌, drop}
use Rattle.std.specs.List.{flat_map}
use Rattle.service_state.specs.Metrics.{sample_text}
use Rattle.service_state.proofs.spelling.push_samples.Given as goal

abbrev pub invariant-loop-sample : goal.invariant-loop-sample
invariant-loop-sample l =
    l.octets.items ++ flat_map (sample_text l.name) (drop l.sample-index l.samples)
    ≡ l.initial.octets.items ++ flat_map (sample_text l.name) l.samples
