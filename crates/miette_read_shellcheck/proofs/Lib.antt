pub mod CommentsHold
mod ColumnSteps
