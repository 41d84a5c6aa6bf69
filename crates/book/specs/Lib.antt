pub mod Tables
pub mod Kept
pub mod Keeps
pub mod Snapshots
