pub mod GatherLemmas
mod LengthLemmas
mod TextLemmas
