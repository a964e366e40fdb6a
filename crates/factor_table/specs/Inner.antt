pub mod Storing
pub mod Reading
