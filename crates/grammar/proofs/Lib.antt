pub mod Listed
pub mod Tailing
pub mod Parting
pub mod Asking
pub mod Reading
