-- Definitions that theorems about the rules use.
pub mod FilledRows
pub mod FittingRows
pub mod Tame
pub mod Kept
pub mod PlainWords
