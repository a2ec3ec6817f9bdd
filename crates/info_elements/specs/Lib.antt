pub mod Element
pub mod Numbers
