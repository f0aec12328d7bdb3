-- The models of values.
pub mod Holding
pub mod FixSelection
pub mod SelectedFixes
pub mod Folder
pub mod RowState
pub mod Reading
pub mod Writing
