pub mod rules
pub mod steps
pub use Rattle.miette.specs.rules.Options
