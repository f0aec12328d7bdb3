-- Definitions of the code's internal steps. No rule names them.
pub mod Reads
