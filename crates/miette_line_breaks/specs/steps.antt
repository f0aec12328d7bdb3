-- Definitions of the code's internal steps. No rule names them.
pub mod States
pub mod AsciiState
