pub mod Texts
pub mod Tokens
pub mod Numbers
pub mod Readings
pub mod Cursors
pub mod Written
pub mod Laws
