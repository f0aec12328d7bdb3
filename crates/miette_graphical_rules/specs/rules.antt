-- What users rely on. docs/REFERENCE.md says the same in words.
pub mod GraphicalSettings
pub mod Sources
pub mod Answers
pub mod Indents
pub mod DiagnosticText
pub mod Text
pub mod PrintedDiagnostics
pub mod PossibleAnswers
pub mod Snippets
pub mod Calls
pub mod ByLine
