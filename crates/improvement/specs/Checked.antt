-- What is known of a cell before its improvement is worked out. A birth year of the table is at most 2110, and the improvements go as far.
use Rattle.std.specs.Prelude.{ℕ, ◌+◌, ◌≤◌, List}
use Rattle.basis.specs.Basis.{basis_of, Accepted}
use Rattle.history.specs.History.{basis_with, Workable}
use Rattle.improvement.specs.Improvement.{first_year}

-- an age in a year from the first that has an improvement
pub record ImprovedCell (run history : List ℕ) (age year : ℕ) : Type 0 where
  pub usable : Workable run history
  pub age_low : 20 ≤ age
  pub age_high : age ≤ 150
  pub year_low : first_year (basis_with run history) ≤ year
  pub birth_high : year ≤ 2110 + age

-- an age in a year from F on, whose improvement is the projection's
pub record ProjectedCell (run : List ℕ) (age year : ℕ) : Type 0 where
  pub accepted : Accepted run
  pub age_low : 20 ≤ age
  pub age_high : age ≤ 150
  pub year_low : (basis_of run).foundation ≤ year
  pub birth_high : year ≤ 2110 + age
