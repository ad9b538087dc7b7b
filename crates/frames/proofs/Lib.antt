-- The laws of this crate.
pub mod InputLaws
pub mod OpenLaws
pub mod TurnLaws
