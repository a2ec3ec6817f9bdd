use Rattle.std.proofs.Common.{◌≡◌, ◌∙◌, ap, refl, slice_index}
use Rattle.peer_plan.specs.Plan.{PlanView, counts_of}
use Rattle.peer_plan.specs.declared.number_range.NumberRange.{NumberRange}
use Rattle.worker_setup.specs.Skipping.{SkippedBefore, stream_at}
use Rattle.worker_setup.proofs.Skips.{drawn_at, one_peer_more}
use Rattle.worker_setup.proofs.skipping.skip_each.Goals as goal

pub loop-place-init : goal.loop-place-init
unfolding SkippedBefore stream_at
loop-place-init g c = record { stream = refl; skipped = refl }

pub loop-place-preserved : goal.loop-place-preserved
loop-place-preserved g c =
    let counts = counts_of c.args.exchange.now.peers in
    let counted : c.range-count.result.count ≡ slice_index counts c.loop-place.place =
    ap (λ (range : NumberRange). range.count) c.range-count.ensures.value
    ∙ ap (λ (plan : PlanView). slice_index (counts_of plan.peers) c.new-peer.result) c.plan-in-loop-place.ensures
    ∙ ap (slice_index counts) c.new-peer.ensures in
    let drawn = drawn_at counts _ _ _ c.loop-place.place _ _ c.loop-place.invariant.stream counted c.skips-skips.ensures in
    record {
      stream = drawn.1;
      skipped = one_peer_more counts _ c.loop-place.place _ _ _ _ _ c.loop-place.invariant.skipped c.new-peer.ensures drawn.0
          c.skip.ensures;
    }
