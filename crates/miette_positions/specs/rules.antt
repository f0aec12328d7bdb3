-- Definitions that contracts use. crates/miette_positions/CALLING.md says them in words.
pub mod Regions
pub mod Stops
