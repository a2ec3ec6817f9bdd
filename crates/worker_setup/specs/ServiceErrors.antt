-- The reasons why a service ends early, and the words that are printed for them.
use Rattle.std.specs.Prelude.{ℕ, List, codes, Option, None, Some}
use Rattle.udp_wires.specs.declared.bind_error.BindError.{BindError}
use Rattle.udp_wires.specs.declared.bind_error.BindError.TheVariants as bind_errors
use Rattle.worker_setup.specs.declared.service_error.ServiceError.{ServiceError}
use Rattle.worker_setup.specs.declared.service_error.ServiceError.TheVariants as errors

-- the name of the variant; none, if nothing can be printed
abbrev pub error_text : ServiceError → Option (List ℕ)
error_text errors.Bind = Some (codes "Bind")
error_text errors.Memory = Some (codes "Memory")
error_text errors.NoThread = Some (codes "NoThread")
error_text errors.Clock = Some (codes "Clock")
error_text errors.Entropy = Some (codes "Entropy")
error_text errors.Writer = None
error_text errors.Trace = Some (codes "Trace")
error_text errors.Descriptors = Some (codes "Descriptors")

-- the reason, if a worker's socket isn't bound
abbrev pub from_bind : BindError → ServiceError
from_bind bind_errors.Bind = errors.Bind
from_bind bind_errors.Memory = errors.Memory
