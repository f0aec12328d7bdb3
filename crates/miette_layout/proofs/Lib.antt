pub mod AroundRows
pub mod AskedEnds
pub mod HighlightedPieces
pub mod LeftOutRows
pub mod LineRows
pub mod PrimaryOfReads
pub mod ReadRows
pub mod SnippetSequence
