pub mod Text
pub mod Sinks
pub mod Theorems
pub mod SinkLaws
