-- The laws of this crate.
pub mod ItemLines
pub mod Numbers
pub mod Readings
pub mod Standing
