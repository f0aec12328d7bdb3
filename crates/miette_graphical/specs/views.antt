-- What the values of the code represent.
pub mod Painting
pub mod PartTexts
