pub mod Keywords
pub mod Meaning
pub mod Said
pub mod Grammar
pub mod Language
