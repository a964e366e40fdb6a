pub mod Lives
pub mod Discount
pub mod Payments
pub mod LastAge
pub mod Bounded
