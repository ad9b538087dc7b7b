-- The laws of this crate.
pub mod Growing
pub mod WatchedKeys
