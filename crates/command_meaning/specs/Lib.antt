-- The definitions of this crate.
pub mod Kinds
pub mod Meant
pub mod Reading
