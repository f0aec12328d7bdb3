pub mod rules
pub mod laws
pub mod views
