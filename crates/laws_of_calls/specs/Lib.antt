pub mod Stored
pub mod StoredSteps
pub mod PeerCalls
pub mod Runs
pub mod Spent
pub mod LookedAfter
pub mod StoredNames
pub mod DatagramsLeft
