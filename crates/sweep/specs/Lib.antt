pub mod Encoding
pub mod Sweep
pub mod EachStep
pub mod Fixed
