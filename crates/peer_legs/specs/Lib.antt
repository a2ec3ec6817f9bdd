pub mod Challenges
pub mod Finding
pub mod Legs
pub mod LegsInside
pub mod RemoteNumbers
pub mod Rests
pub mod Steps
