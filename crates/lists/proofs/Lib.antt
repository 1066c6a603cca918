pub mod Language
pub mod Gathering
pub mod Fitting
