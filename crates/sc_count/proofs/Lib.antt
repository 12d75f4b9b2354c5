pub mod CalleeCounts
pub mod CallerCounts
pub mod DeckTallies
pub mod EventCounts
pub mod ItemLemmas
pub mod KindNumbers
pub mod SoundCounts
pub mod TallyLaws
