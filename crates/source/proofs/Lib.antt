pub mod Cells
pub mod TableRows
pub mod Places
pub mod Following
pub mod Leads
pub mod Risen
