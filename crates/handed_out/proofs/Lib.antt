mod Natural
mod Answers
mod Sets
mod Lifelines
pub mod Distances
pub mod Back
