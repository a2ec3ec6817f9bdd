use Rattle.std.proofs.Common.{◌≡◌, ◌∙◌, ap, sym, length, arith}
use Rattle.trunk_packer.proofs.QueueLaws.{HoldsQueue-length}
use Rattle.trunk_packer.proofs.WholeLaws.{IsCounting-none, IsCounting-its, IsCounting-other, counted_in, few_of_call}
use Rattle.trunk_packer.specs.Queue.{call_entries}
use Rattle.trunk_packer.proofs.packer.Packer.call_entries.Goals as goal

pub split_entry-requires : goal.split_entry-requires
split_entry-requires c =
    omega (
      arith,
      c.loop-entry.invariant.within,
      ap length c.as_slices.ensures,
      HoldsQueue-length _ _ _ c.self.invariant.1,
      c.self.invariant.1.few_entries,
      c.self.invariant.1.little_media,
    )

pub loop-entry-preserved-then-is_of : goal.loop-entry-preserved-then-is_of
loop-entry-preserved-then-is_of c = IsCounting-its _ _ _ _ _ _ c.loop-entry.invariant c.in-Some.ensures.some
    (sym c.is_of.ensures ∙ c.if-is_of.true)

pub loop-entry-preserved : goal.loop-entry-preserved
loop-entry-preserved c = IsCounting-other _ _ _ _ _ _ c.loop-entry.invariant c.in-Some.ensures.some
    (sym c.is_of.ensures ∙ c.if-is_of.false)

pub returns-clause-entries : goal.returns-clause-entries
returns-clause-entries c = counted_in _ _ _ _ _ c.as_slices.ensures c.self.view_is
    (IsCounting-none _ _ _ _ c.loop-entry.invariant c.in_default.ensures.none)

pub returns-clause-few : goal.returns-clause-few
returns-clause-few c =
    let is : c.loop-entry.entries ≡ call_entries c.args.number c.args.self.now = counted_in _ _ _ _ _ c.as_slices.ensures
    c.self.view_is (IsCounting-none _ _ _ _ c.loop-entry.invariant c.in_default.ensures.none) in
    omega (arith, is, few_of_call c.args.number c.args.self.now)
