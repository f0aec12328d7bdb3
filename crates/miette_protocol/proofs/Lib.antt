pub mod LineFacts
pub mod Wholes
pub mod Locations
pub mod Labelled
pub mod KnownLines
