-- Laws of the lowest classes, and of a class's own rows.
pub mod Lowest
pub mod Together
pub mod Linked
