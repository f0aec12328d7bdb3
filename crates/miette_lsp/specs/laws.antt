-- Theorems about the rules.
pub mod Examples
