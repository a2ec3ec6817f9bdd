pub mod Legend
pub mod MediaRuns
pub mod Wrapping
pub mod Xml
pub mod Capture
pub mod InternetChecksum
