pub mod views
pub mod steps
