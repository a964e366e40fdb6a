pub mod Decimal
pub mod Ascii
pub mod Reply
pub mod Put
