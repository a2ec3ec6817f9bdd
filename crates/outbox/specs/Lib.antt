pub mod Outbox
pub mod Stored
