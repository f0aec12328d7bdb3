-- Values of the code, as the rules represent them.
pub mod Found
