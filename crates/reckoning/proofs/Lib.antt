pub mod Places
pub mod Figures
