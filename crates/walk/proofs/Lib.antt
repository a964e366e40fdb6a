pub mod Words
pub mod Tests
pub mod Locals
pub mod Statements
pub mod Calls
pub mod Params
pub mod Meets
pub mod Counting
