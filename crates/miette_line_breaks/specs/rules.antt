-- Definitions that contracts use. crates/miette_line_breaks/CALLING.md says them in words.
pub mod Classes
pub mod Characters
pub mod Rules
