-- The values of a life: its expectation and an annuity, or the first refusal along its rates, which is that of both.
use Rattle.std.specs.Prelude.{ℕ, ◌+◌, ◌≤◌, List, ℤ, pos, Result, Ok, Err}
use Rattle.history.specs.Checked.{Cell}
use Rattle.history.specs.History.{basis_with}
use Rattle.factor_table.specs.FactorTable.{FactorTable}
use Rattle.outcome.specs.declared.Refusal.{Refusal}
use Rattle.outcome.specs.Outcome.{Outcome, value, refused}
use Rattle.swept_points.specs.declared.life_values.LifeValues.{LifeValues}

-- what they are worked out from: an age in a year from B on, a deferment that ends by age 150, and the table
pub record LifeFrom (run history numbers : List ℕ) (age deferment year : ℕ) : Type 0 where
  pub start : Cell run history age year
  pub age_high : age + deferment ≤ 150
  pub table : FactorTable (basis_with run history) numbers

abbrev pub life_expectation : Result LifeValues Refusal → Outcome ℤ
life_expectation (Ok values) = value (pos values.expectation)
life_expectation (Err r) = refused r

abbrev pub life_annuity : Result LifeValues Refusal → Outcome ℤ
life_annuity (Ok values) = value (pos values.annuity)
life_annuity (Err r) = refused r
