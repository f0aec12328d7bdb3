-- The definitions that users rely on, named as in crates/miette_report/CALLING.md.
pub mod Job
pub mod Logs
pub mod JobCalls
pub mod AppliedFixes
pub mod Requests
