pub mod Chosen
pub mod ElementsRead
