-- What users rely on. docs/REFERENCE.md says the same in words.
pub mod LabelColumns
pub mod CutLines
pub mod Defaults
pub mod LabelRows
pub mod FoldedLabels
pub mod Frames
pub mod Gutters
pub mod Highlighting
pub mod Underlines
pub mod Numbers
pub mod PrintedCells
pub mod ShownLines
pub mod SnippetLayout
pub mod SnippetSettings
pub mod Snippets
