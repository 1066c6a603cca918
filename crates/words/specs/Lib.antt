pub mod Words
pub mod Lines
pub mod Rest
pub mod Number
pub mod Name
pub mod Token
pub mod Kinds
pub mod Parted
