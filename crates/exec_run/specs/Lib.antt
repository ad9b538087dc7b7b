-- The definitions of this crate.
pub mod Execution
pub mod Previewing
pub mod Progress
