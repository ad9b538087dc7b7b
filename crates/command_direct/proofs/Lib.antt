-- The laws of this crate.
pub mod Answering
pub mod Commands
pub mod Executing
pub mod KindRuns
pub mod LastReader
pub mod Listed
