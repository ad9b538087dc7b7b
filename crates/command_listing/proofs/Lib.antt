-- The laws of this crate.
pub mod Matching
pub mod Ranging
pub mod Rests
pub mod Scanning
