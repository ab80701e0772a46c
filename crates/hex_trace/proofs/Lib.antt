pub mod Blocks
pub mod Bytes
pub mod Decoded
pub mod Digits
pub mod Ends
pub mod Marks
pub mod Pairs
pub mod Pieces
