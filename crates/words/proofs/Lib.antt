pub mod Cutting
pub mod Numeric
pub mod Listed
pub mod Gaps
