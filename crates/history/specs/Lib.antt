pub mod History
pub mod Accepted
pub mod Inner
pub mod Checked
pub mod Held
