pub mod LongTerm
pub mod PeriodByAge
mod Lists
mod Entries
mod Tables
mod Placing
mod Checking
mod Reading
pub mod Accepted
pub mod Numbered
