pub mod Constant
pub mod Found
pub mod Heads
pub mod Sums
