pub mod Refused
pub mod Requests
