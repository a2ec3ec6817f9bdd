pub mod Notes
pub mod Stepped
