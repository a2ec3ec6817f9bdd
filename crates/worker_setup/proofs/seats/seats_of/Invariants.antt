use Rattle.std.proofs.Common.{◌≡◌, ◌+◌, vec_len, vec_capacity}
use Rattle.worker_setup.proofs.seats.seats_of.Given as goal

abbrev pub invariant-loop-place : goal.invariant-loop-place
invariant-loop-place g l = record {
  seats : vec_len l.seats ≡ l.place;
  passes : vec_len l.passes + l.place ≡ vec_len l.fn.passes;
  room : vec_capacity l.seats ≡ l.count;
}
