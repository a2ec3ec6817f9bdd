pub mod Carried
pub mod CarriedAcross
pub mod Followed
