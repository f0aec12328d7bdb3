pub mod Known
pub mod Logged
pub mod Mended
pub mod Rows
pub mod Sums
