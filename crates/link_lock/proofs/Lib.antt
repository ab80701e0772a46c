pub mod Settles
pub mod Steps
pub mod Visits
