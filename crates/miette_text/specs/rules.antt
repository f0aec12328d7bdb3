-- Definitions that contracts use. docs/REFERENCE.md says them in words.
pub mod ColouredTexts
pub mod Fitting
pub mod Wrapping
