-- Definitions of the code's internal steps. No rule names them.
pub mod Ends
pub mod WholeText
pub mod Fitting
