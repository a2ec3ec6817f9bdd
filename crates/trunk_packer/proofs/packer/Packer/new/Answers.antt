use Rattle.trunk_packer.proofs.QueueLaws.{fresh, fresh_queue}
use Rattle.trunk_packer.proofs.packer.Packer.new.Goals as goal

pub invariant_of-result : goal.invariant_of-result
invariant_of-result c = fresh _ c.in_ok-ring_with_capacity.ensures.ring

pub returns-clause-empty : goal.returns-clause-empty
returns-clause-empty c = fresh_queue _ c.in_ok-ring_with_capacity.ensures.ring
