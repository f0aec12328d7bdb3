-- What the values of the code represent.
pub mod Requests
