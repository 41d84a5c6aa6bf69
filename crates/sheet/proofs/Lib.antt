pub mod Closings
