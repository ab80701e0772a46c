pub mod Histories
pub mod Live
