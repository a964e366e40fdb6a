pub mod Lines
pub mod Output
pub mod State
