pub mod Rows
pub mod Solvable
pub mod DoubleParity
pub mod Choices
pub mod Sums
pub mod Lists
pub mod Lawfully
