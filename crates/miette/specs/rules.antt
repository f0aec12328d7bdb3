-- The definitions that users rely on, named as in docs/REFERENCE.md.
pub mod Options
pub mod Choice
pub mod Detection
pub mod Printing
pub mod Counting
pub mod Forms
pub mod ReporterRun
pub mod Reported
pub mod Inputs
pub mod Pieces
pub mod Texts
pub mod Arguments
