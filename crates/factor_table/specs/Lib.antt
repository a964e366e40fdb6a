pub mod Inner
pub mod FactorTable
pub mod Fixed
