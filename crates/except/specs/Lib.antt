pub mod Blockers
pub mod Excepts
pub mod Sounds
pub mod Theorems
