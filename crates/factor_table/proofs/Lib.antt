mod LaterPlaces
mod LaterSweeping
mod Parts
mod Sweeping
mod Written
pub mod Fixed
pub mod StoredFactors
