-- What the distances take of a life: a basis within its limits, n years from an age on that the tables have, and a year in which the age has one of
-- their birth years. From what was checked.
use Prim.Native.Nat.{ℕ, ◌+◌, ◌≤◌}
use mathlib.Core.List.{List}
use native.Mathlib.Omega.{arith}
use Rattle.basis.specs.Basis.{Basis, Limited}
use Rattle.history.specs.Checked.{Cell, Life}
use Rattle.history.specs.History.{basis_with}
use Rattle.history.proofs.With.{limits-with}
use Rattle.survivorship.specs.Survivorship.{year_on}
use Rattle.survivorship.specs.declared.Kind.{Kind}
use Rattle.survivorship.proofs.Survivors.{year-early}

pub record LimitedLife (b : Basis) (age n year : ℕ) : Type 0 where
  pub limits : Limited b
  pub age_low : 20 ≤ age
  pub age_high : age + n ≤ 150
  pub birth_high : year ≤ 2110 + age

pub of-cell : {run history : List ℕ} {age year : ℕ} → Cell run history age year → LimitedLife (basis_with run history) age 0 year
of-cell c = record { limits = limits-with c.usable; age_low = c.age_low; age_high = omega (arith, c.age_high); birth_high = c.birth_high }

pub of-life : {run history : List ℕ} {age n year : ℕ} → Life run history age n year → LimitedLife (basis_with run history) age n year
of-life l = record { limits = limits-with l.usable; age_low = l.age_low; age_high = l.age_high; birth_high = omega (arith, l.age_low, l.year_high) }

-- the part of it that begins later, by either kind, with as many years as are left or fewer
pub later : {b : Basis} {age n year : ℕ} → LimitedLife b age n year → (kind : Kind) (j m : ℕ) → age + j + m ≤ 150 → LimitedLife b (age + j) m (year_on kind j year)
later {year = year} l kind j m h =
    record { limits = l.limits; age_low = omega (arith, l.age_low); age_high = h; birth_high = omega (arith, l.birth_high, year-early kind j year) }
