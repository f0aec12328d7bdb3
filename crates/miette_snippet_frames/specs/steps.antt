-- Steps of the code, which no rule names.
pub mod FrameParts
