pub mod Finding
pub mod Cutting
pub mod Numerals
pub mod Writing
pub mod Places
