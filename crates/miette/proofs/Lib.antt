pub mod Footers
pub mod Inputs
pub mod Texts
pub mod Reported
