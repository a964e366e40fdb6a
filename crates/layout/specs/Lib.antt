pub mod Layout
pub mod Meaning
pub mod Printed
