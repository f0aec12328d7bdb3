pub mod Joining
pub mod PieceLemmas
