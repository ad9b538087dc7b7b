-- The laws of this crate.
pub mod BeginLaws
pub mod LineAnswered
pub mod OutputLaws
pub mod PageLaws
pub mod ServeLaws
pub mod StepLaws
pub mod TurnLaws
