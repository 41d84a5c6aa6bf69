pub mod Faults
pub mod Checks
pub mod Applying
pub mod Laws
