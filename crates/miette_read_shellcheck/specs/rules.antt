-- The definitions that users rely on, as in crates/miette_read_shellcheck/CALLING.md.
pub mod Columns
pub mod Comments
