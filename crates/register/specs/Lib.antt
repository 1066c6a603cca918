pub mod Layout
pub mod State
pub mod Refusals
pub mod History
pub mod Runs
