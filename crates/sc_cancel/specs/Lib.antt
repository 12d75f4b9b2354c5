pub mod Cancelling
pub mod Keeping
pub mod Moves
