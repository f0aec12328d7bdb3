-- What the values of the code represent.
pub mod Sinks
pub mod Interleaving
pub mod Outputs
