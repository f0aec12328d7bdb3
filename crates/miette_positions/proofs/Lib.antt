pub mod Finding
pub mod Passing
pub mod Rising
pub mod Stepping
