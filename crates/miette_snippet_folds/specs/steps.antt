-- Steps of the code, which no rule names.
pub mod Counting
pub mod LineNumbers
pub mod Nearness
