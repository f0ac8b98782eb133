-- What it means to find keys.
pub mod Keys
