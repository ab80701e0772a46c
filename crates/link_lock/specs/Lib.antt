pub mod Lists
pub mod Pass
pub mod Rule
