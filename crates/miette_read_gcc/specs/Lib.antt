pub mod rules
pub mod views
