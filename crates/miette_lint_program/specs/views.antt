-- What the values of the code represent.
pub mod Requests
pub mod LintReports
pub mod Service
