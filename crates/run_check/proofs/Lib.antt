mod Turns
pub mod Acceptance
pub mod Numbered
