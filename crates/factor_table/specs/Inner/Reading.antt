-- Where a factor is read: in its own year, or in the year before it where its own is not stored.
use Rattle.std.specs.Prelude.{Bool, cond, ◌||◌, List, ℕ, ◌+◌, ◌*◌, ◌-◌, ◌/◌, ◌%◌, eqb, ltb, ℤ, get_or}
use Rattle.basis.specs.Basis.{Basis}
use Rattle.outcome.specs.Outcome.{Outcome}
use Rattle.sweep.specs.Encoding.{decoded}
use Rattle.factor_table.specs.FactorTable.{early_length, later_year, later_at}

-- which of the years from 2130 on has the numbers of a year
abbrev pub later_of : ℕ → ℕ
later_of year = (year - 2130) / 2

-- the last year up to this one that is stored
unfoldable pub stored_year : ℕ → ℕ
stored_year year = cond (ltb year 2130) year (later_year (later_of year))

-- is it the year itself?
abbrev pub is_stored : ℕ → Bool
is_stored year = ltb year 2130 || eqb (year % 2) 0

-- where the number of an age stands in that year
unfoldable pub place_of : Basis → ℕ → ℕ → ℕ
place_of b age year =
    cond (ltb year 2130) (131 * (year - b.base) + (age - 20)) (early_length + (later_at (later_of year) + (age - 20 - 2 * later_of year)))

-- what stands there
abbrev pub stored_factor : Basis → List ℕ → ℕ → ℕ → Outcome ℤ
stored_factor b numbers age year = decoded age (get_or numbers (place_of b age year) 0)
