-- What the values of the code represent.
pub mod Folding
pub mod ReadExtents
pub mod Gaps
pub mod LeftOut
pub mod NearFolds
pub mod ExtentIndex
pub mod ExtentIndexes
