mod Window
mod Yearly
mod Ways
mod Places
mod RightBlocks
pub mod Acceptance
pub mod With
pub mod Numbered
