mod Prelude
mod Onward
pub mod Held
mod Runs
mod Steps
mod Names
mod Safe
mod SafeSteps
mod SafeRequests
mod Safety
mod TalkPlaces
mod TalkSteps
mod Talk
mod Left
