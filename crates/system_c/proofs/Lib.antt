pub mod SystemTaking
pub mod PassTaking
