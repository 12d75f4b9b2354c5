pub mod Probes
pub mod Rules
pub mod States
pub mod Watched
