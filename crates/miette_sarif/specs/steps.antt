-- Helper definitions of the code.
pub mod Drafts
pub mod Gathering
pub mod Members
pub mod Picking
pub mod SnapshotReads
