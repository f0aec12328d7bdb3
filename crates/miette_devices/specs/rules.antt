-- Definitions that contracts use. crates/miette_devices/CALLING.md says them in words.
pub mod Words
pub mod Faults
pub mod OutputForms
