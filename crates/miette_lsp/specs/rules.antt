-- The definitions that users rely on, named as in crates/miette_lsp/CALLING.md.
pub mod Diagnostics
pub mod Documents
pub mod LspText
pub mod LogWords
