-- Steps of the code, which no rule names.
pub mod TextKinds
pub mod FixSources
