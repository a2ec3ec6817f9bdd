use Rattle.std.proofs.Common.{◌≡◌, ◌+◌, length}
use Rattle.call_files.specs.Ledgers.{with_all}
use Rattle.call_files.proofs.writer.Ledger.take_rest.Given as goal

abbrev pub invariant-loop : goal.invariant-loop
invariant-loop g l =
    (with_all (record { calls = l.self.calls; backlog = l.self.log.backlog }) l.kept.waiting
    ≡ with_all (record { calls = l.initial.self.calls; backlog = l.initial.self.log.backlog }) l.initial.kept.waiting)
    × (length l.kept.waiting + l.counter ≡ length l.initial.kept.waiting)
    × (l.self.log.file ≡ l.initial.self.log.file)
