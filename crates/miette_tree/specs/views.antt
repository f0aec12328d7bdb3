-- What the values of the code represent.
pub mod Owned
pub mod Attachments
pub mod Kind
pub mod Report
pub mod RemainingChain
pub mod Handler
