pub mod Plans
pub mod Questions
