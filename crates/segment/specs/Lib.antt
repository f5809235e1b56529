pub mod Refusals
pub mod Views
pub mod Waits
pub mod Told
