-- What the values of the code represent.
pub mod DeviceState
pub mod Device
pub mod Endings
