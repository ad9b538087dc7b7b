-- The laws of this crate.
pub mod AnswerLaws
pub mod ExecLaws
pub mod LayoutLaws
pub mod PreviewLaws
pub mod Progress
pub mod QueuedLaws
pub mod WalkLaws
