pub mod Calls
pub mod Counts
pub mod Ended
pub mod Passes
pub mod Places
pub mod Threads
