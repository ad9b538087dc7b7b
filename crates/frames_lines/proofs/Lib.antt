-- The laws of this crate.
pub mod AnswerLaws
pub mod FrameLaws
pub mod HeldLaws
pub mod HexLaws
pub mod LineLaws
pub mod OpenLaws
pub mod PrintedLaws
pub mod QuitLaws
pub mod RestLaws
pub mod ServedLaws
pub mod UsedLaws
