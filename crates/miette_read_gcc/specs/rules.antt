-- The definitions that users rely on, as in crates/miette_read_gcc/CALLING.md.
pub mod Lines
pub mod Gcc
pub mod GccReport
