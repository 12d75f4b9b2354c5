pub mod Run
pub mod Fill
pub mod Adder
pub mod Number
pub mod Makes
pub mod Words
pub mod Shifts
pub mod Pieces
pub mod Means
pub mod Top
pub mod Counted
pub mod Placing
pub mod Whole
pub mod Grows
pub mod Emitting
mod Worked
