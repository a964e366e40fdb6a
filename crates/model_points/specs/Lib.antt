pub mod Point
