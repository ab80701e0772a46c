pub mod Blocks
pub mod Entries
