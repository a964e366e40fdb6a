pub mod Model
pub mod Distance
pub mod Sharp
pub mod WorseRun
