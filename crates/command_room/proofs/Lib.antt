-- The laws of this crate.
pub mod Checked
pub mod Commits
pub mod Served
pub mod Writes
