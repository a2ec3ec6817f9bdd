pub mod Ranges
pub mod Table
pub mod TableInside
pub mod Book
pub mod Inside
