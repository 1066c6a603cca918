pub mod Members
pub mod Folds
pub mod Grouped
pub mod Room
pub mod RowsTallied
pub mod TablesHold
