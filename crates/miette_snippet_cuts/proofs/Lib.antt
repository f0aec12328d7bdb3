pub mod CountedColumns
pub mod CutStretches
pub mod NearEnds
pub mod PassedStretches
pub mod PlainStretches
pub mod Reaching
pub mod RowWidth
pub mod WindowColumns
