pub mod Equal
pub mod Whole
pub mod Scaling
pub mod Sameness
pub mod Order
pub mod Printable
