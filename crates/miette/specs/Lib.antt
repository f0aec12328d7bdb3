pub mod rules
pub mod views
pub use Rattle.miette_protocol.specs.views.Diagnostic
pub use Rattle.miette_protocol.specs.views.Meaning
pub use Rattle.miette_protocol.specs.rules.Reading
pub use Rattle.miette_tree.specs.views.Report
pub use Rattle.miette_tree.specs.rules.Diagnosis
pub use Rattle.miette_tree.specs.rules.Tree
