-- Definitions that contracts use.
pub mod Lists
pub mod Lines
pub mod Cutting
