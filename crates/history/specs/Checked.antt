-- What an enquiry has checked before its work begins: a data run and a history that may be worked with, and a cell of the table or a life. The
-- work takes these and hands them on whole.
use Rattle.std.specs.Prelude.{ℕ, ◌+◌, ◌≤◌, List}
use Rattle.history.specs.History.{basis_with, Workable}

-- an age in a year from B on. A birth year of the table is at most 2110, and the rates go as far: to 2259 at age 149
pub record Cell (run history : List ℕ) (age year : ℕ) : Type 0 where
  pub usable : Workable run history
  pub age_low : 20 ≤ age
  pub age_high : age ≤ 150
  pub year_low : (basis_with run history).base ≤ year
  pub birth_high : year ≤ 2110 + age

-- an age with a deferment, in a year from B to 2130
pub record Life (run history : List ℕ) (age deferment year : ℕ) : Type 0 where
  pub usable : Workable run history
  pub age_low : 20 ≤ age
  pub age_high : age + deferment ≤ 150
  pub year_low : (basis_with run history).base ≤ year
  pub year_high : year ≤ 2130
