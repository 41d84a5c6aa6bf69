pub mod Items
pub mod Beneath
pub mod Meanings
pub mod MeaningsLemmas
