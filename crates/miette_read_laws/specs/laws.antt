-- The words of the theorems.
pub mod Messages
pub mod GccTexts
pub mod LogTexts
pub mod ShellcheckTexts
pub mod Data
pub mod LinkEnds
pub mod Links
pub mod RegionsBack
pub mod NamesBack
pub mod Kept
pub mod Files
pub mod Reading
pub mod Sources
pub mod Worked
pub mod Boundaries
pub mod Indexed
pub mod SameFixes
