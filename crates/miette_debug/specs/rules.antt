-- The definitions that users rely on, named as in crates/miette_debug/CALLING.md.
pub mod DebugText
