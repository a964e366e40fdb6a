pub mod HandedTotal
pub mod Demands
