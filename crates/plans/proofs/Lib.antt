pub mod Congruent
pub mod Laws
pub mod Answered
