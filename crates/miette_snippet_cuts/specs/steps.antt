-- Steps of the code, which no rule names.
pub mod Counting
pub mod LineParts
pub mod Moving
pub mod Nearness
pub mod Windows
