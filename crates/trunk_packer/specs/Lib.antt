pub mod Queue
pub mod Stored
pub mod Packing
