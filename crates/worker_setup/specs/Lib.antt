pub mod Accounts
pub mod ServiceErrors
pub mod Drawing
pub mod Skipping
pub mod Reports
