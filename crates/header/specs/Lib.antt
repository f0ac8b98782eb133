pub mod Keyed
pub mod Limits
