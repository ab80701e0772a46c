pub mod Example
pub mod Given
pub mod Task
pub mod Order
pub mod TwoThreads
pub mod Keeping
pub mod Traces
