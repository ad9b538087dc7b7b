-- The definitions of this crate.
pub mod Opens
pub mod Replies
pub mod Steps
