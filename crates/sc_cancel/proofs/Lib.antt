pub mod Marks
pub mod Taking
pub mod Restoring
pub mod MoveLaws
pub mod Reducing
pub mod Stepping
