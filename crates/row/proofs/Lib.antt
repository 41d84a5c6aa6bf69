pub mod Types
pub mod Factorials
pub mod Orders
pub mod Benches
