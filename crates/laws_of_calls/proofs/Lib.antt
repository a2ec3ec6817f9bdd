mod Places
mod Names
mod WorldSteps
mod AtPeers
mod AtBooks
mod Spent
mod Called
mod Events
mod Shapes
mod Kept
mod InRuns
mod InWorld
mod HeldNames
mod AtOnce
mod Made
mod Locked
pub mod PeerSteps
pub mod WorldLegs
mod LeftDatagrams
