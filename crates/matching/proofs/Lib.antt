pub mod Laws
pub mod Linked
pub mod Match
