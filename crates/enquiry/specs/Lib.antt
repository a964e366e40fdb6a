pub mod Enquiry
