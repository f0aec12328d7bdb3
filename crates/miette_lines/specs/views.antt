-- What the values of the code represent.
pub mod Index
pub mod Known
pub mod Walking
