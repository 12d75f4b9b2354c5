mod CarryLemmas
mod CoarseLemmas
mod DeckPaths
mod ExpansionLemmas
mod FewGates
mod HeadlineLaws
mod InOrder
pub mod ModeLemmas
pub mod OneAnswer
mod DrillParts
mod DrillSizes
mod ListLemmas
mod ListedGates
mod OtherLemmas
mod ReopenedLaws
mod RunLemmas
mod SourceLaws
mod StageLemmas
mod WatchLemmas
