-- The definitions of this crate.
pub mod Answers
pub mod Requests
pub mod Responds
pub mod Routes
