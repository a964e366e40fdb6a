-- Where an age or a birth year stands in its tables. Assumes nothing.
use mathlib.Core.Path.{◌≡◌}
use Prim.Native.Nat.{ℕ, ◌-◌, ◌≤◌, ◌<◌}
use native.Mathlib.Nat.{min-eq_left, min-le_right}
use native.Mathlib.Omega.{arith}
use Rattle.layout.specs.Layout.{ages, birth_years}
use Rattle.basis.specs.Basis.{age_place, birth_year_place}

pub age-place : (age : ℕ) → age ≤ 150 → age_place age ≡ age - 20
age-place age h = min-eq_left (omega arith)

pub birth-year-place : (year : ℕ) → year ≤ 2110 → birth_year_place year ≡ year - 1842
birth-year-place year h = min-eq_left (omega arith)

-- a place of the table, whatever is asked
pub age-place-inside : (age : ℕ) → age_place age < ages
age-place-inside age = omega (arith, min-le_right (age - 20) (ages - 1))

pub birth-year-place-inside : (year : ℕ) → birth_year_place year < birth_years
birth-year-place-inside year = omega (arith, min-le_right (year - 1842) (birth_years - 1))

-- both places, for the check of a function
pub ruleset places = (age-place, birth-year-place)
