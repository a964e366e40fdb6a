pub mod EachForm
pub mod Printed
