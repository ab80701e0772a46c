pub mod Made
pub mod SystemLending
pub mod PassLending
