-- Definitions of the code's internal steps. No rule names them.
pub mod Cells
pub mod Feeds
pub mod WholeTags
