-- What the values of the code represent.
pub mod ProgramLabels
pub mod Turns
pub mod Placing
pub mod Primary
pub mod Reads
pub mod Sweeping
pub mod LabelCounts
