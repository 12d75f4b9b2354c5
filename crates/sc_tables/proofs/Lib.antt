pub mod Phases
pub mod Replaced
pub mod Swaps
