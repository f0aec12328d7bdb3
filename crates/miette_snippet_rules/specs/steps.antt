-- Steps of the code, which no rule names.
pub mod LabelColumnSteps
pub mod ColumnStops
pub mod CellTokens
pub mod PlainCut
pub mod Tabs
