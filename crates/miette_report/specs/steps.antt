-- Helper definitions of the code that no rule mentions.
pub mod FixLists
