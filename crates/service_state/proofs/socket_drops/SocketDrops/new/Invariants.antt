use Rattle.std.proofs.Common.{◌≡◌, vec_len}
use Rattle.service_state.proofs.socket_drops.SocketDrops.new.Given as goal

abbrev pub invariant-loop : goal.invariant-loop
invariant-loop l = vec_len l.marks ≡ l.counter
