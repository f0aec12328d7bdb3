-- The models of values.
pub mod GccContexts
