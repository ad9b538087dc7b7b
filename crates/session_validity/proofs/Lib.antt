-- The laws of this crate.
pub mod SessionTests
pub mod Validity
