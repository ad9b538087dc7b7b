-- The laws of this crate.
pub mod Arguments
pub mod Counters
pub mod Seeing
pub mod ValueReplies
