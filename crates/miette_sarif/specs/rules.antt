-- The definitions that users rely on, named as in crates/miette_sarif/CALLING.md.
pub mod Artifacts
pub mod Codes
pub mod Findings
pub mod FindingList
pub mod Log
pub mod LogText
pub mod Marks
pub mod Messages
pub mod Objects
pub mod Places
pub mod Proposals
pub mod Results
pub mod SourceSnapshot
pub mod SourceAnswers
pub mod Uris
