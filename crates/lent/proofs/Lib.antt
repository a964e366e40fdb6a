pub mod Lent
pub mod Numbered
