-- The definitions that users rely on, as in crates/miette_show/CALLING.md.
pub mod ValueKinds
pub mod ShownRow
pub mod Logging
pub mod ShowWords
pub mod LogCalls
pub mod TerminalWords
