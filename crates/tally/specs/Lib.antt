pub mod Counts
pub mod Pricing
pub mod Losses
pub mod Wrapping
pub mod Capped
