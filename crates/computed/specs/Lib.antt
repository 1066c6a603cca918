pub mod Watches
pub mod Handovers
