pub mod Counting
pub mod Losses
