-- What the values of the code represent.
pub mod Printouts
pub mod Tokens
