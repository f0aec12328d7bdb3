pub mod Builds
pub mod Edits
pub mod Files
pub mod Spans
pub mod Values
