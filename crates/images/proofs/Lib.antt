pub mod Images
pub mod Linked
