pub mod Polynomials
pub mod Signature
pub mod Steps
pub mod Counted
pub mod Laws
pub mod Modular
pub mod PolynomialsLemmas
pub mod Series
