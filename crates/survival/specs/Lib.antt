pub mod LowHigh
pub mod Ruled
pub mod Held
