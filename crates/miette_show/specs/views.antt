-- The models of values.
pub mod Asked
pub mod LoggedRow
pub mod Texts
