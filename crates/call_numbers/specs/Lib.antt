-- The definitions of this crate.
pub mod Lending
pub mod Numbers
