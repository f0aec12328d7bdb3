-- The definitions that users rely on.
pub mod FixIts
pub mod Rows
pub mod Locations
pub mod Fixes
pub mod Commands
pub mod LocatedLabels
pub mod Github
pub mod Report
pub mod PossibleAnswers
pub mod BriefSources
