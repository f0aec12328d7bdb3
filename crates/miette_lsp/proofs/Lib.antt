pub mod Grouping
pub mod Parts
pub mod Putting
pub mod Spelling
pub mod LogSteps
