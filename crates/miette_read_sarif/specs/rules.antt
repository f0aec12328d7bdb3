-- The definitions that users rely on, as in crates/miette_read_sarif/CALLING.md.
pub mod Messages
pub mod Uris
pub mod Bases
pub mod Newlines
pub mod Regions
pub mod Descriptors
pub mod Results
pub mod Wholes
pub mod Counting
pub mod Notices
pub mod Proposals
pub mod Logs
pub mod Names
