-- The names that refusals of the lower layers have here.
use Rattle.iax_frames.specs.declared.datagram.FrameError.{FrameError}
use Rattle.iax_frames.specs.declared.datagram.FrameError.TheVariants as unread
use Rattle.call_signals.specs.declared.order.OrderError.{OrderError as LegError}
use Rattle.call_signals.specs.declared.order.OrderError.TheVariants as leg_errors
use Rattle.call_signals.specs.declared.outcomes.StepError.{StepError}
use Rattle.call_signals.specs.declared.outcomes.StepError.TheVariants as step_errors
use Rattle.peer_lock.specs.declared.errors.OrderError.{OrderError}
use Rattle.peer_lock.specs.declared.errors.OrderError.TheVariants as orders
use Rattle.peer_lock.specs.declared.errors.PeerError.{PeerError}
use Rattle.peer_lock.specs.declared.errors.PeerError.TheVariants as errors

abbrev pub from_step : StepError → PeerError
from_step step_errors.RecordFull = errors.RecordFull
from_step step_errors.Unaddressed = errors.Unaddressed
from_step step_errors.NewUnacknowledged = errors.NewUnacknowledged
from_step step_errors.Memory = errors.Memory

abbrev pub from_frame : FrameError → PeerError
from_frame unread.Short = errors.Short
from_frame (unread.MetaCommand command) = errors.MetaCommand
from_frame (unread.EntryCut place) = errors.EntryCut

abbrev pub from_leg : LegError → OrderError
from_leg leg_errors.WrongStage = orders.WrongStage
from_leg leg_errors.WindowFull = orders.WindowFull
from_leg leg_errors.RecordFull = orders.RecordFull
from_leg leg_errors.Memory = orders.Memory
