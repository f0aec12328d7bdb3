-- Definitions that theorems about the rules use.
pub mod Conflicts
pub mod Errors
pub mod Places
