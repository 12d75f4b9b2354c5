pub mod Places
pub mod Early
pub mod Finding
pub mod ReadFaults
