-- The statements of theorems.
pub mod Frames
pub mod Whole
pub mod Worked
pub mod ChangedCuts
pub mod Context
