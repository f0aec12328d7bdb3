pub mod CodeLists
pub mod Equality
pub mod Icons
pub mod MadeThemes
pub mod Paging
pub mod PrintedText
pub mod StyleBytes
