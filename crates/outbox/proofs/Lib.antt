pub mod Puts
pub mod StoredLaws
pub mod Sending
