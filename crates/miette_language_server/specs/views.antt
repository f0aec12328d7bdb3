-- Values of the code, as the rules represent them.
pub mod Answered
pub mod ClientState
pub mod Served
