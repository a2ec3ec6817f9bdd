use Rattle.std.proofs.Common.{ℕ, ◌∙◌, ap, length, arith}
use Rattle.circular_buffer.specs.Buffer.{Buffer}
use Rattle.trunk_packer.specs.Queue.{media_octets}
use Rattle.trunk_packer.proofs.QueueLaws.{HoldsQueue-length}
use Rattle.trunk_packer.proofs.PackingLaws.{IsPacking-bound, IsPacking-more, IsPacking-packed, IsPacked-holds}
use Rattle.trunk_packer.proofs.PackingLaws.{AppendsFront-shorter, some_unless}
use Rattle.trunk_packer.proofs.packer.Packer.pack.Goals as goal

pub append_front-requires-clause-short : goal.append_front-requires-clause-short
append_front-requires-clause-short c =
    omega (
      arith,
      c.loop-len.invariant.within,
      ap length c.as_slices.ensures,
      HoldsQueue-length _ _ _ c.self.invariant.1,
      c.self.invariant.1.few_entries,
      c.self.invariant.1.little_media,
    )

pub overflow_add-media : goal.overflow_add-media
overflow_add-media c =
    omega (arith, IsPacking-bound _ _ _ _ _ _ _ (IsPacking-more _ _ _ _ _ _ _ _ _ _ c.loop-len.invariant c.in-Some.ensures.some))

pub loop-len-smaller : goal.loop-len-smaller
loop-len-smaller c = AppendsFront-shorter _ _ _ _ _ _ c.loop-len.invariant.left_spelled c.in-Some.ensures.some

pub loop-len-preserved : goal.loop-len-preserved
loop-len-preserved c = IsPacking-more _ _ _ _ _ _ _ _ _ _ c.loop-len.invariant c.in-Some.ensures.some

pub len-kept-requires : goal.len-kept-requires
len-kept-requires c =
    omega (
      arith,
      c.loop-len.invariant.within,
      ap length c.as_slices.ensures,
      HoldsQueue-length _ _ _ c.self.invariant.1,
      c.self.invariant.1.few_entries,
      c.self.invariant.1.little_media,
    )

pub overflow_sub-self-2 : goal.overflow_sub-self-2
overflow_sub-self-2 c =
    let packed =
    IsPacking-packed _ _ _ _ _ _ _ _ _ _ _ _ _ c.loop-len.invariant c.as_slices.ensures c.self.view_is c.self.invariant.1.spelled
    c.in_default.ensures.none c.in_default.ensures.same c.len-kept.ensures c.truncate_front.ensures in
    omega (arith, packed.media_counted, ap media_octets c.self.view_is, c.self.invariant.1.media_counted)

pub invariant_of-self : goal.invariant_of-self
invariant_of-self c = (
  ap (λ (ring : Buffer ℕ). ring.capacity) c.truncate_front.ensures ∙ c.self.invariant.0,
  IsPacked-holds _ _ _ _ _ _ _ _ _ _ c.self.invariant.1 c.self.view_is
      (IsPacking-packed _ _ _ _ _ _ _ _ _ _ _ _ _ c.loop-len.invariant c.as_slices.ensures c.self.view_is
      c.self.invariant.1.spelled
      c.in_default.ensures.none c.in_default.ensures.same c.len-kept.ensures c.truncate_front.ensures),
)

pub returns-clause-packed : goal.returns-clause-packed
returns-clause-packed c =
    (IsPacking-packed _ _ _ _ _ _ _ _ _ _ _ _ _ c.loop-len.invariant c.as_slices.ensures c.self.view_is c.self.invariant.1.spelled
    c.in_default.ensures.none c.in_default.ensures.same c.len-kept.ensures c.truncate_front.ensures).packs

pub returns-clause-counted : goal.returns-clause-counted
returns-clause-counted c =
    (IsPacking-packed _ _ _ _ _ _ _ _ _ _ _ _ _ c.loop-len.invariant c.as_slices.ensures c.self.view_is c.self.invariant.1.spelled
    c.in_default.ensures.none c.in_default.ensures.same c.len-kept.ensures c.truncate_front.ensures).media_counted

pub returns-clause-some : goal.returns-clause-some
returns-clause-some c =
    let packed =
    IsPacking-packed _ _ _ _ _ _ _ _ _ _ _ _ _ c.loop-len.invariant c.as_slices.ensures c.self.view_is c.self.invariant.1.spelled
    c.in_default.ensures.none c.in_default.ensures.same c.len-kept.ensures c.truncate_front.ensures in
    omega (arith, packed.some (some_unless _ _ c.is_empty.ensures c.if-is_empty.false), packed.entries_counted)
