mod Files
mod Turns
pub mod RoundTrip
pub mod Numbered
