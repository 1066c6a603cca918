pub mod ListLines
pub mod ListLanguage
pub mod ListFiles
