-- The definitions that users rely on, as in crates/miette_show_rows/CALLING.md.
pub mod CurrentSpans
pub mod OutdatedFiles
pub mod ApplicableFixes
pub mod FixesByFile
pub mod Packages
pub mod Looking
pub mod Rows
pub mod Parts
pub mod Values
pub mod Notes
pub mod Statuses
pub mod FixesFiles
pub mod Visible
