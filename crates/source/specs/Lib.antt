pub mod Meaning
pub mod Tables
pub mod Theorems
pub mod Filled
