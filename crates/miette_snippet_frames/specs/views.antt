-- What the values of the code represent.
pub mod ContentsRows
pub mod GutterEnds
pub mod LineContexts
pub mod Places
pub mod Widths
