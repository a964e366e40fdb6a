pub mod Numbered
pub mod Reasons
