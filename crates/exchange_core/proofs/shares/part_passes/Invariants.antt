use Rattle.std.proofs.Common.{◌≡◌, ◌+◌, sum, vec_len}
use Rattle.std.specs.Vec.{vec_capacity}
use Rattle.exchange_core.specs.Sums.{left_with, steps_under, begun_with, noted_under}
use Rattle.exchange_core.proofs.shares.part_passes.Given as goal

abbrev pub invariant-loop-pass : goal.invariant-loop-pass
invariant-loop-pass g l = record {
  octets_len : vec_len l.octets + vec_len l.passes ≡ vec_len l.initial.octets + vec_len l.initial.passes;
  steps_len : vec_len l.steps + vec_len l.passes ≡ vec_len l.initial.steps + vec_len l.initial.passes;
  octets_room : vec_capacity l.octets ≡ vec_capacity l.initial.octets;
  steps_room : vec_capacity l.steps ≡ vec_capacity l.initial.steps;
  octets : sum l.octets.items + left_with l.passes.items ≡ sum l.initial.octets.items + left_with l.initial.passes.items;
  noted : steps_under l.initial.passes.items + begun_with l.passes.items + noted_under l.passes.items ≡ begun_with
      l.initial.passes.items + noted_under l.initial.passes.items + steps_under l.passes.items;
  steps : sum l.steps.items + steps_under l.passes.items ≡ sum l.initial.steps.items + steps_under l.initial.passes.items;
}

abbrev pub decreases-loop-pass : goal.decreases-loop-pass
decreases-loop-pass g l = vec_len l.passes
