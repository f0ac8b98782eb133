pub mod Nearby
