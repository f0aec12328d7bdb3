-- Theorems about the rules.
pub mod Utf8Texts
