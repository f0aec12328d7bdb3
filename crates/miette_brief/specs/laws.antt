-- Theorems about the rules.
pub mod Parts
pub mod ReadBack
pub mod EditBack
pub mod CommandBack
