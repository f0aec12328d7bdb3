-- Helper definitions of the code that no rule mentions.
pub mod Reads
pub mod Conversions
pub mod AppendedParts
pub mod CommandParts
pub mod PrimaryLabels
pub mod WholeSources
