pub mod Whole
pub mod Wrong
