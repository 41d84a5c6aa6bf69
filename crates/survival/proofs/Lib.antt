pub mod Rounding
pub mod Enclosing
pub mod Reckoned
pub mod Answered
