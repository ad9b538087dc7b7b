-- The definitions of this crate.
pub mod Held
pub mod Line
pub mod Pieces
pub mod Printed
pub mod Quit
pub mod Rest
pub mod Served
