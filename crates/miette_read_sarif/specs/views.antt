-- The models of values.
pub mod Seen
pub mod RunContexts
pub mod Pieces
pub mod Begins
pub mod Tables
