mod Work
pub mod Calls
pub mod Reasons
