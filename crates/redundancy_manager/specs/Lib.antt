pub mod Kept
pub mod View
