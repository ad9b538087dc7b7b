-- The definitions of this crate.
pub mod Reads
pub mod See
