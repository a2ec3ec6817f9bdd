pub mod Ascending
pub mod CarriedOn
pub mod Ends
pub mod Followed
pub mod Loads
pub mod Sides
pub mod Trails
