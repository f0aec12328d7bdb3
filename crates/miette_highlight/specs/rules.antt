-- Definitions that contracts use. crates/miette_highlight/CALLING.md says them in words.
pub mod Characters
pub mod FollowingCalls
pub mod HighlighterCalls
pub mod Languages
pub mod Patterns
pub mod Pieces
pub mod Tokens
