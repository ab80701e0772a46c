pub mod Sending
pub mod Once
pub mod Running
pub mod Network
pub mod Since
pub mod Messages
pub mod Conditions
pub mod Examples
