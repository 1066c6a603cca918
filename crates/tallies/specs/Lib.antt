pub mod Tallies
pub mod TallyTheorems
pub mod Examples
