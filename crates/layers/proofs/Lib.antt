pub mod DaySets
pub mod Leads
pub mod SameKinds
pub mod Stores
pub mod Picks
