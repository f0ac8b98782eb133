-- The rows of an item, said of keys.
pub mod Rows
