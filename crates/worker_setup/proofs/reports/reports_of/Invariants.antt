use Rattle.std.proofs.Common.{◌≡◌, ◌+◌, ◌≤◌, vec_len, vec_capacity}
use Rattle.worker_setup.proofs.reports.reports_of.Given as goal

-- the seats that are left, and the room for their results
abbrev pub invariant-loop : goal.invariant-loop
invariant-loop g l = record {
  seats : vec_len l.seats + l.counter ≡ l.count;
  reports : vec_len l.reports ≡ l.counter;
  reports_room : vec_capacity l.reports ≡ l.count;
  passes : vec_len l.passes ≡ vec_len l.initial.passes + l.counter;
  passes_room : vec_len l.passes + vec_len l.seats ≤ vec_capacity l.passes;
}
