-- The statements of further theorems about graphical reports.
pub mod FittingRows
pub mod Arrows
pub mod Levels
pub mod NumberRows
pub mod ShownLines
pub mod Determined
pub mod RowRoom
pub mod RowTexts
pub mod SourceSettings
pub mod WholeRows
