pub mod Replacing
pub mod Tables
