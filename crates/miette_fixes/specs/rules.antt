-- Definitions that contracts use. docs/REFERENCE.md says them in words.
pub mod Applying
pub mod ApplyingAll
pub mod Edits
pub mod Texts
