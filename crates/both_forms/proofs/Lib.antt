mod Alike
pub mod Forms
mod Within
