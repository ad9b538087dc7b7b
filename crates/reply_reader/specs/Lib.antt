-- The definitions of this crate.
pub mod Table
pub mod Written
