mod GccFixes
mod GccTexts
mod LogOffers
mod LogFixes
mod LogTexts
mod ShellcheckFixes
mod ShellcheckTexts
pub mod Objects
pub mod Members
pub mod LinkEnds
pub mod Links
pub mod Texts
pub mod Rules
pub mod RunContext
pub mod MessageParts
pub mod RegionsWalk
pub mod RegionsCut
pub mod RegionsEnds
pub mod RegionsBack
pub mod NamesBack
pub mod NamesDecoded
pub mod LogPlaces
pub mod Annotation
pub mod Counted
pub mod Drafts
pub mod Over
pub mod Gathered
pub mod Whole
pub mod Spelled
pub mod Shallow
pub mod Written
pub mod Boundaries
pub mod Indexed
pub mod SameFixes
