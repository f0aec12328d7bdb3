-- The code's own steps, which no rule names.
pub mod ParsedArguments
