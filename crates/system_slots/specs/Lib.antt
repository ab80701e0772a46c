pub mod Passing
pub mod Running
