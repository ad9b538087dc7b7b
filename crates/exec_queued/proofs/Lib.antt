-- The laws of this crate.
pub mod CounterLaws
pub mod LiveLaws
pub mod RanLaws
