pub mod Bodying
pub mod Bounding
pub mod Chaining
pub mod Existence
pub mod Faulting
pub mod Fitting
pub mod Naming
pub mod Operating
pub mod TypedRows
pub mod Uniqueness
pub mod Valuing
pub mod Widths
mod Worked
