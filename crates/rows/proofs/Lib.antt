-- Laws of lists end to end, and of rows.
pub mod Joined
pub mod Laws
pub mod Linked
