pub mod ClosingRows
pub mod FrameRows
pub mod GutterRows
pub mod TextLines
pub mod MarkRows
pub mod TextRows
