pub mod rules
pub mod views
pub mod laws
pub mod steps
pub use Rattle.miette_style.specs.rules.Styles
pub use Rattle.miette_style.specs.rules.Themes
pub use Rattle.miette_highlight.specs.rules.Pieces
pub use Rattle.miette_style.specs.rules.Escapes
