pub mod Counts
pub mod Laws
pub mod ByType
