pub mod DeviceLemmas
pub mod FaultRows
pub mod FaultStatuses
pub mod WriteResults
