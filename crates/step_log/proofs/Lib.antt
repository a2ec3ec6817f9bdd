pub mod Counted
pub mod Noting
pub mod Stepping
pub mod Sending
pub mod Trails
