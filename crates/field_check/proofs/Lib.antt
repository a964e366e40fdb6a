mod Turns
pub mod Limits
pub mod Holds
pub mod Fields
pub mod Numbered
