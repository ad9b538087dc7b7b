-- The definitions of this crate.
pub mod Numbers
pub mod Leaving
pub mod Deciding
