-- What a write leaves of a lent buffer.
pub mod Sets
pub mod Linked
