pub mod Consumed
pub mod NewReader
pub mod OneRing
pub mod MissedFresh
