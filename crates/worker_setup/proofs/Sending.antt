-- The observer of a worker's turns may go to another thread, with all that it holds. The search at its use tries too little for
-- that.
use denote.Param.Send.{IsSend, IsSync, sendable}
use denote.RattleType.{RattleType}
use denote.Ref.{NamedLft}
use Rattle.std.proofs.Crossing.{crosses}
use Rattle.trace_writer.specs.contracts.lane.TraceLane as lane
use Rattle.trace_writer.specs.contracts.trace.Trace as trace
use Rattle.worker_setup.specs.contracts.traced_turns.TracedTurns as traced

trace_sync : IsSync trace.the_row
trace_sync = search (sendable, crosses) parts 8 depth 40 fits 50000

lane_send : (t : NamedLft) → IsSend (lane.the_row t)
lane_send t = search (trace_sync, sendable, crosses) parts 8 depth 40 fits 50000

pub traced_send : (t : NamedLft) (R : RattleType) → IsSync R → IsSend (traced.the_row t R)
traced_send t R s = search (lane_send, sendable, crosses) parts 8 depth 40 fits 50000
