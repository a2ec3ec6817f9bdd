pub mod Frames
pub mod Joined
pub mod Moments
