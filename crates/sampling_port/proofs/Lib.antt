pub mod Turns
pub mod Opens
pub mod Stores
pub mod Looks
pub mod Moments
pub mod Octets
pub mod Ranges
