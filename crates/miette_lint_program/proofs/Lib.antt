pub mod AcceptedFindings
pub mod CommandSteps
pub mod DiffSteps
pub mod LintServerSteps
pub mod LintSteps
pub mod LogSteps
pub mod RequestSteps
pub mod RowSteps
