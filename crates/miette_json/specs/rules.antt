-- The definitions that users rely on, named as in crates/miette_json/CALLING.md.
pub mod Json
pub mod Denotes
pub mod JsonReport
pub mod JsonText
pub mod Writing
