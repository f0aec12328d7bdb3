-- Definitions that contracts use. docs/REFERENCE.md says them in words.
pub mod Styles
pub mod Codes
pub mod Themes
pub mod Escapes
pub mod Rows
