pub mod Roll
pub mod Kept
pub mod Totals
