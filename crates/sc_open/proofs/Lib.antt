pub mod Grammar
pub mod LineParts
pub mod LowerLaws
pub mod ReadLoop
pub mod StageLaws
pub mod Words
pub mod WriteLemmas
