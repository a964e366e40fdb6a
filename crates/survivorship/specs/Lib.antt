pub mod Survivorship
