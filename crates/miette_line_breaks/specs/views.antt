-- What the values of the code represent.
pub mod Left
pub mod Places
pub mod AsciiState
