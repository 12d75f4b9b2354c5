pub mod Agreement
pub mod Entries
pub mod Expressions
pub mod Numbers
pub mod Ranges
pub mod Scopes
