pub mod Passed
pub mod Numbered
