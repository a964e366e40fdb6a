pub mod Steps
pub mod Survivorship
pub mod Numbered
