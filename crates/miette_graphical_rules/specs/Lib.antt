pub mod rules
pub mod views
pub mod steps
pub mod laws
