-- The definitions of this crate.
pub mod Numbers
pub mod Decided
