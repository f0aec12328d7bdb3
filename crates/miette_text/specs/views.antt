-- What the values of the code represent.
pub mod Plans
pub mod Cutting
pub mod Breaks
