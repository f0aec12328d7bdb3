-- What the values of the code represent.
pub mod HandlerState
pub mod GraphicalSettings
