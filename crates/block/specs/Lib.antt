pub mod Block
pub mod Blocks
