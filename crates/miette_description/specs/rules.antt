-- Definitions that contracts use. crates/miette_description/CALLING.md says them in words.
pub mod Members
pub mod Description
