-- Laws of the tree that entries read as, and of the recursion that finds it.
pub mod Laws
pub mod Steps
pub mod Linked
