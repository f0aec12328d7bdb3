-- Definitions of the code's internal steps. No rule names them.
pub mod SplitPoints
pub mod Checkpoints
pub mod ZeroWidthRuns
