-- The definitions that users rely on, named as in crates/miette_draw/CALLING.md.
pub mod Pictures
pub mod Words
