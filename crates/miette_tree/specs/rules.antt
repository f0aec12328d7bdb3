-- Definitions that contracts use. docs/REFERENCE.md says them in words.
pub mod Diagnosis
pub mod Tree
pub mod Answers
pub mod CauseTexts
pub mod Chain
pub mod WrapErr
pub mod DiagnosticParts
pub mod Display
pub mod Reads
