pub mod Fault
pub mod Lines
pub mod Logs
pub mod Outlets
pub mod Ledgers
pub mod RowLines
