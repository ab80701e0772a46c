pub mod BlockList
pub mod Kept
pub mod OctetBlock
