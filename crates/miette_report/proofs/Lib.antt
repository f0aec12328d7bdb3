pub mod FixSteps
pub mod JobEnds
pub mod LogSteps
pub mod WholeTexts
pub mod JobSteps
pub mod RequestSteps
mod RuleTexts
mod OneJobText
