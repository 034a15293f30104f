pub mod UntilEmpty
pub mod NewlyAttached
pub mod Following
pub mod Ends
pub mod Histories
pub mod Demand3
pub mod WrongReads
pub mod ShutOut3
