pub mod Views
pub mod Finds
