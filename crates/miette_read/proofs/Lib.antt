pub mod Accepted
pub mod AllHold
pub mod AlwaysRead
pub mod Endings
pub mod Holding
pub mod Kept
pub mod MessageRows
pub mod NameSteps
pub mod Numbered
pub mod Parts
pub mod ReportsRead
pub mod RowLists
pub mod Sections
pub mod Steps
mod Apart
pub mod Applying
pub mod HelpRows
pub mod Made
pub mod KeptOffers
pub mod Proposed
pub mod KeptRows
pub mod RustcTexts
mod Shown
pub mod KeptStanding
mod KeptSteps
