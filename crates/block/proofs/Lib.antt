mod WordSums
mod Turns
pub mod Blocks
pub mod Joined
pub mod Numbered
