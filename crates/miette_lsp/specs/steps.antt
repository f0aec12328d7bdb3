-- Helper definitions of the code.
pub mod Putting
