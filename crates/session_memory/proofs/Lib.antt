-- The laws of this crate.
pub mod Expanding
pub mod Kept
pub mod Queueing
pub mod Sums
pub mod TestParts
pub mod WatchCall
pub mod Watching
