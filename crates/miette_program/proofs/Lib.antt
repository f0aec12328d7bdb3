pub mod AlwaysTold
pub mod HighlighterSteps
pub mod JobHandlerSteps
pub mod OptionWordSteps
