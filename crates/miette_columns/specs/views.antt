-- What the values of the code represent.
pub mod Printable
pub mod Walking
