mod Parts
mod Numbers
mod Proportions
mod Laying
mod SameBasis
mod Own
mod Turns
mod Placing
mod Checking
mod Writing
pub mod Forms
pub mod Numbered
