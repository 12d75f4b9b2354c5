pub mod Rows
pub mod Tables
pub mod Fronts
pub mod Powers
pub mod Ends
pub mod Places
