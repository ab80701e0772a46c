pub mod Queue
pub mod Rule
