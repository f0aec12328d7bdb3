-- What the values of the code represent.
pub mod Cuts
pub mod LineTexts
pub mod MadeUnderlines
pub mod SnippetSettings
pub mod LineScans
