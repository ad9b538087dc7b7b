-- The laws of this crate.
pub mod ArgumentLaws
pub mod Growing
pub mod Lists
pub mod Places
pub mod PutLaws
pub mod Readers
pub mod RowLaws
