pub mod Take
pub mod Writing
