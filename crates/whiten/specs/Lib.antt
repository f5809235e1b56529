pub mod Whitening
pub mod WhiteningLemmas
