use Rattle.std.proofs.Common.{◌∙◌, arith}
use Rattle.trunk_packer.proofs.QueueLaws.{HoldsQueue-length, HoldsQueue-push, queue_in-push, media_octets-push}
use Rattle.trunk_packer.proofs.packer.Packer.queue.Goals as goal

pub push_entry-requires-clause-room : goal.push_entry-requires-clause-room
push_entry-requires-clause-room c =
    omega (arith, c.self.invariant.0, HoldsQueue-length _ _ _ c.self.invariant.1, c.self.invariant.1.few_entries)

pub invariant_of-self : goal.invariant_of-self
invariant_of-self c = (
  c.push_entry.ensures.capacity ∙ c.self.invariant.0,
  HoldsQueue-push _ _ _ _ _ c.push_entry.ensures.octets c.self.invariant.1 c.push_entry.ensures.entry
      (omega (arith, c.self.invariant.1.few_entries)) (omega (arith, c.self.invariant.1.little_media)),
)

pub returns-clause-queued : goal.returns-clause-queued
returns-clause-queued c = queue_in-push _ _ _ _ c.push_entry.ensures.octets c.self.view_is c.self.invariant.1.spelled
    c.push_entry.ensures.entry

pub returns-clause-counted : goal.returns-clause-counted
returns-clause-counted c =
    media_octets-push _ _ _ (queue_in-push _ _ _ _ c.push_entry.ensures.octets c.self.view_is c.self.invariant.1.spelled
    c.push_entry.ensures.entry)
