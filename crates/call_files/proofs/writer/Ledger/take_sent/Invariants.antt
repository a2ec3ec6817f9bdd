use Rattle.std.proofs.Common.{◌≡◌, []}
use Rattle.rtrb.specs.Ring.{received}
use Rattle.call_files.specs.Ledgers.{IsNoted}
use Rattle.call_files.proofs.writer.Ledger.take_sent.Given as goal

abbrev pub invariant-loop : goal.invariant-loop
invariant-loop g l =
    IsNoted (received l.initial.seam.ring) (received l.seam.ring) []
    (record { calls = l.initial.self.calls; backlog = l.initial.self.log.backlog })
    (record { calls = l.self.calls; backlog = l.self.log.backlog })
    × (l.self.log.file ≡ l.initial.self.log.file)
