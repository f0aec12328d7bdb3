-- The definitions that users rely on, as in crates/miette_read/CALLING.md.
pub mod LineStarts
pub mod Members
pub mod Names
pub mod Places
pub mod AnnotationLabels
pub mod SuggestedFixes
pub mod EditMessage
pub mod MessageLists
pub mod Reports
pub mod Kept
pub mod Rustc
pub mod RustcReport
