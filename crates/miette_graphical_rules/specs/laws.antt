-- The statements of theorems.
pub mod Clean
pub mod PlainTexts
pub mod Paths
pub mod Alike
pub mod CharacterSets
pub mod ShownLabelLines
pub mod SnippetTheorems
pub mod HeldRows
pub mod FixDiffs
