-- Definitions that contracts use. docs/REFERENCE.md says them in words.
pub mod Cells
pub mod Widths
pub mod Columns
