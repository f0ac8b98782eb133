-- What a well-formed summary of as many items has.
pub mod Laws
