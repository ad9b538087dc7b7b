-- The laws of this crate.
pub mod Among
pub mod Answering
pub mod Enqueueing
pub mod Fixtures
pub mod Requested
pub mod Routing
pub mod WatchAnswers
