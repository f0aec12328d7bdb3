-- Values of the code, as the rules represent them.
pub mod Handler
pub mod FormHandler
pub mod Beginning
pub mod Severities
