-- The definitions of this crate.
pub mod Command
pub mod Errors
pub mod Finish
pub mod Glob
pub mod GlobWalk
pub mod Held
pub mod Lent
pub mod Names
pub mod Opens
pub mod Numbers
pub mod Places
pub mod Requests
pub mod Session
pub mod Sessions
pub mod Watch
