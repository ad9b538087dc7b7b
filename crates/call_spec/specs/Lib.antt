-- The definitions of this crate.
pub mod Serve
pub mod Calls
pub mod Demand1
pub mod Posting
pub mod Verdicts
pub mod Demand3
pub mod Captures
pub mod Previews
pub mod Made
pub mod Frames
pub mod Opens
