-- The definitions of this crate.
pub mod Bounds
pub mod Input
