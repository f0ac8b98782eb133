-- Laws of an entry that reads.
pub mod Laws
pub mod Linked
