pub mod ClauseSteps
pub mod SumSteps
pub mod ColourSteps
pub mod Wrapping
pub mod FixSteps
pub mod RowSteps
pub mod NamedRows
pub mod LogSteps
