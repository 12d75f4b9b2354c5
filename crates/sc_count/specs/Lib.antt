pub mod Callees
pub mod Counting
pub mod Limits
pub mod Tallies
