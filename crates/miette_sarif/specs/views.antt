-- Values of the code, as the rules represent them.
pub mod Artifacts
pub mod FindingParts
pub mod DraftValue
pub mod Findings
pub mod Grouped
pub mod Handled
pub mod Rules
pub mod Sources
pub mod Tool
