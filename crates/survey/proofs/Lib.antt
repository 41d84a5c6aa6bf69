pub mod Places
pub mod Folds
pub mod LineSums
