-- What the values of the code represent.
pub mod NamedSources
pub mod Meaning
pub mod Diagnostic
pub use Rattle.miette_lines.specs.views.Walking
