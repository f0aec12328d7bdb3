-- The definitions that users rely on, named as in crates/miette_narrated/CALLING.md.
pub mod Labels
pub mod Lines
pub mod Snippets
pub mod Fixes
pub mod Report
pub mod PossibleAnswers
