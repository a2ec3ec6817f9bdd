pub mod Sending
mod Draws
mod ReportLemmas
mod Skips
