pub mod Direct
pub mod Fixed
mod OneAge
pub mod Numbers
pub mod Steps
