pub mod StoredLaws
pub mod QueueLaws
pub mod PackingLaws
pub mod WholeLaws
pub mod Sending
