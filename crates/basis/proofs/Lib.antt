pub mod Accumulation
pub mod Lengths
pub mod Places
pub mod Rated
