pub mod Reports
pub mod Steps
