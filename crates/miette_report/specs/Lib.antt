pub mod rules
pub mod steps
pub mod views
