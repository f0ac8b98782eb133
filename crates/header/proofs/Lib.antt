pub mod File
pub mod Linked
