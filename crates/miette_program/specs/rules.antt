-- The definitions that users rely on, named as in crates/miette_program/CALLING.md.
pub mod LanguageRules
pub mod OptionWords
pub mod JobText
