-- The laws of this crate.
pub mod RespondLaws
pub mod ServingLaws
