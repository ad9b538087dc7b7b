-- The laws of this crate.
pub mod ConcludeLaws
pub mod DecideLaws
