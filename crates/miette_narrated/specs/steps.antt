-- Helper definitions of the code that no rule mentions.
pub mod LabelSweep
pub mod Ends
pub mod Conversions
pub mod NarrationSettings
pub mod EditPlaces
pub mod FixSources
pub mod AppendedParts
