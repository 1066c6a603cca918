pub mod Areas
pub mod Sorted
pub mod Keys
pub mod Collects
