mod Words
pub mod Back
pub mod Printed
pub mod Says
pub mod Numbered
