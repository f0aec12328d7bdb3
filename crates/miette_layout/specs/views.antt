-- What the values of the code represent.
pub mod PrintedSnippets
pub mod SnippetRows
pub mod SourceEnds
