pub mod Newcomers
pub mod Pops
pub mod Rejecting
mod Starting
mod Media
mod Carrying
mod FirstSteps
mod FirstPeers
mod Leaving
mod Denying
mod Naming
mod Tracing
pub mod Sending
