pub mod Component
pub mod PerCent
