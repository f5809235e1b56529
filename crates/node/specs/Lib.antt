pub mod Stamped
pub mod Tagged
pub mod Shelved
pub mod Spared
pub mod Views
pub mod Picked
