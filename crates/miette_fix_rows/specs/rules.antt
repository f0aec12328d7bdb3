-- What users rely on. docs/REFERENCE.md says the same in words.
pub mod Blocks
pub mod Hunks
pub mod DiffFrames
pub mod DiffTexts
pub mod DiffRows
