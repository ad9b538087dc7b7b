-- The laws of this crate.
pub mod Converse
pub mod Extending
pub mod InOrder
pub mod Lengthening
pub mod Passing
pub mod ReadBack
pub mod Rebuilding
pub mod Refusing
pub mod Sample
pub mod Tables
pub mod Texts
