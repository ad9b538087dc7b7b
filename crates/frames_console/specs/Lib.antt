-- The definitions of this crate.
pub mod Answers
pub mod Lines
pub mod Page
pub mod Steps
