pub mod Passed
pub mod Bounded
