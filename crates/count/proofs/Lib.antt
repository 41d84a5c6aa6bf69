pub mod Over
pub mod Lists
pub mod Subsets
pub mod Choosing
pub mod Steps
pub mod Counting
pub mod Tables
