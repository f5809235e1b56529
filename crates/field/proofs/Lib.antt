pub mod Tested
pub mod Bits
pub mod Linear
pub mod Proved
pub mod Lanes
