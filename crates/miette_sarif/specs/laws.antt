-- Definitions that theorems and examples use.
pub mod Examples
pub mod ReportTexts
pub mod Values
