-- Definitions that contracts use. docs/REFERENCE.md says them in words.
pub mod Answers
pub mod Around
pub mod Contexts
pub mod Groups
pub mod Labels
