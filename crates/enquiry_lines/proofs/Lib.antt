pub mod Parting
pub mod State
pub mod Opened
mod SoFar
pub mod Printed
