pub mod Keys
pub mod Same
