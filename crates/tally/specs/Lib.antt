pub mod Gathered
pub mod Results
pub mod Tallying
pub mod Kinds
