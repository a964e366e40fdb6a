pub mod Cases
pub mod Years
pub mod Numbered
