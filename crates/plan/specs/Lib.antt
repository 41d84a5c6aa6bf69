pub mod Plans
pub mod Paths
pub mod LinePlans
pub mod Lockouts
pub mod Piles
pub mod PilesLemmas
pub mod PathsLemmas
pub mod Deciding
