pub mod Tables
pub mod Masks
pub mod Loops
pub mod Marks
pub mod Under
pub mod Latest
