use Rattle.std.proofs.Common.{◌≡◌, vec_len}
use Rattle.service_state.proofs.socket_drops.SocketDrops.known_counts.Given as goal

abbrev pub invariant-loop-place : goal.invariant-loop-place
invariant-loop-place l = vec_len l.counts ≡ l.place-counter
