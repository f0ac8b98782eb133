pub mod Calls
pub mod Held
pub mod Made
pub mod OverTheCalls
pub mod Ran
