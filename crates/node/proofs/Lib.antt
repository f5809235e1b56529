pub mod Places
pub mod Listed
pub mod Held
pub mod Picks
