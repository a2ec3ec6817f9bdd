-- A request for memory that was refused.
use Rattle.std.specs.Prelude.{Result, Ok, Err, OnErr}

-- A request for memory was refused. No proof outside this file looks behind the name.
pub WasRefused : Type 0
WasRefused = Unit {0}

-- For the functions of `memory_requests` alone, which ask. A crate that doesn't depend on this one can't name it, and
-- `memory_requests` passes on the fact alone. So the fact follows from the contract of a function that asked for memory, and
-- from nothing else.
pub asked_in_vain : {A E : Type 0} (result : Result A E) → OnErr result WasRefused
unfolding WasRefused
asked_in_vain (Ok answer) = tt
asked_in_vain (Err refusal) = tt
