-- The laws of this crate.
pub mod Ends
pub mod Globbing
