pub mod Shape
pub mod Lists
pub mod Sources
pub mod ParsedValueLaws
pub mod NumberSteps
pub mod FrontTexts
pub mod ReportParts
