-- Definitions that contracts use. docs/REFERENCE.md says them in words.
pub mod Cells
pub mod Colours
pub mod Cutting
pub mod Runs
pub mod Sequences
