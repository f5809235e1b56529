pub mod Ranges
pub mod Units
pub mod Refusals
pub mod Making
pub mod Layout
pub mod Values
pub mod Tens
