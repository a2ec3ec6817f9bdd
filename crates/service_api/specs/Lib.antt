pub mod Accounts
pub mod Answered
pub mod Calls
pub mod Figures
pub mod Kept
pub mod Orders
pub mod Peers
pub mod Refused
