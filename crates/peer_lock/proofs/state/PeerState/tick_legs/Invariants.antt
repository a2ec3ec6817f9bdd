use Rattle.std.proofs.Common.{◌≤◌, ◌*◌}
use Rattle.peer_lock.proofs.Ticking.{AreTicked}
use Rattle.peer_lock.proofs.state.PeerState.tick_legs.Given as goal

abbrev pub invariant-loop-index : goal.invariant-loop-index
invariant-loop-index g l = AreTicked l.initial.self l.now l.index l.self l.skipped × (l.skipped ≤ 2 * l.index)
