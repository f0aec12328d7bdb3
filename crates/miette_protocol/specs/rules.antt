-- Definitions that contracts use. docs/REFERENCE.md says them in words.
pub mod Reading
pub mod Context
pub mod Outcome
pub mod Texts
pub mod Location
pub mod DebugForms
pub use Rattle.miette_lines.specs.rules.Lines
pub use Rattle.miette_lines.specs.rules.Cutting
