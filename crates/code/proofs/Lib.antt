pub mod Default
pub mod Scan
pub mod Cuts
pub mod Laws
pub mod Joins
pub mod FromFn
