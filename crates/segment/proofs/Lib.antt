pub mod Mailed
pub mod Served
pub mod Turning
pub mod Put
pub mod Stepped
pub mod Laid
pub mod Waits
