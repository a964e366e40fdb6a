pub mod LaterYears
pub mod BirthYears
