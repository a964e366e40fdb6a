pub mod Enquiry
pub mod Lifelines
pub mod Version
