mod Same
pub mod LaterYears
pub mod BirthYears
