-- How the code searches a source.
pub mod Samples
pub mod Onward
