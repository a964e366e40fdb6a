pub mod Said
pub mod Lifeline
pub mod Survivorship
