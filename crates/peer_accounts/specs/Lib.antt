pub mod Accounts
pub mod Grants
pub mod HandedUp
