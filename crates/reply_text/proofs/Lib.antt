pub mod Puts
pub mod Numerals
mod Turns
