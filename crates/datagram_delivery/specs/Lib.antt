pub mod Splitting
pub mod Datagrams
pub mod Offers
pub mod Interleaved
pub mod Parts
pub mod Counting
pub mod Arriving
pub mod Examples
