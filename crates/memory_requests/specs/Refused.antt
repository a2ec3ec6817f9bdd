-- The fact that a request for memory was refused, without the means to claim it.
pub use Rattle.memory_refusals.specs.Refused.{WasRefused}
