-- The definitions that users rely on, named as in crates/miette_language_server/CALLING.md.
pub mod Actions
pub mod Changes
pub mod Diagnostics
pub mod Documents
pub mod Frames
pub mod Members
pub mod Messages
pub mod Serving
pub mod Session
pub mod Values
