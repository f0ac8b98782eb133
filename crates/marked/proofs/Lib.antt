pub mod Keyed
pub mod Laws
pub mod Linked
pub mod Numbered
