-- Laws of ascending keys.
pub mod Laws
pub mod Linked
