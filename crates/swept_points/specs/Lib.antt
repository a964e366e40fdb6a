pub mod Inner
pub mod LifeValues
