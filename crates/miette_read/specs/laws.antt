-- What holds of the rules.
pub mod Reading
pub mod Apart
pub mod Applying
pub mod Lists
pub mod Proposed
pub mod RustcTexts
pub mod Shown
pub mod MessageTexts
