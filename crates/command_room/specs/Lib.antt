-- The definitions of this crate.
pub mod Reading
pub mod Served
pub mod Writes
