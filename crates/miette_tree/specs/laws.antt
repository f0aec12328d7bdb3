-- Definitions that theorems about the rules use.
pub mod BothEnds
