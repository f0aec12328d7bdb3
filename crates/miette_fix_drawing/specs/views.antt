-- What the values of the code represent.
pub mod ChangedLines
pub mod Contexts
pub mod Frames
pub mod Hunks
pub mod ShownLines
pub mod DiffPositions
