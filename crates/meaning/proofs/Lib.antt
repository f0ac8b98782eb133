-- What is proved of the definitions: that the table of examples computes.
pub mod Examples
