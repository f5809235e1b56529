pub mod Bytes
pub mod Meaning
pub mod Calls
pub mod Copies
pub mod Alike
