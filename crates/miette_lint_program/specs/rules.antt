-- The definitions that users rely on, named as in crates/miette_lint_program/CALLING.md.
pub mod Words
pub mod Logs
