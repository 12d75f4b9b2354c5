pub mod BitBodies
pub mod Cells
pub mod Circuits
pub mod Emitting
pub mod Functions
pub mod Reversible
