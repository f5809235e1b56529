pub mod Tested
pub mod Polynomials
pub mod Laws
pub mod Matrix
