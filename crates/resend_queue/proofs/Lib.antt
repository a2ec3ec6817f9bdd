pub mod Changes
pub mod Sending
