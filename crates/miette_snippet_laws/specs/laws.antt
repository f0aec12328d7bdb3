-- The statements of theorems.
pub mod Belonging
pub mod Breaks
pub mod Folding
pub mod Clean
pub mod CutLetters
pub mod Cuts
pub mod Ends
pub mod LabelUnderlines
pub mod LineRows
pub mod PlainStyles
pub mod Worked
