-- The laws of this crate.
pub mod Lookup
pub mod RowLaws
