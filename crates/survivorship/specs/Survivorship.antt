-- Survivorship, period and cohort (01, "The projection").
use Rattle.std.specs.Prelude.{ℕ, ◌+◌, ℤ, pos, ◌-ℤ◌, ◌*ℤ◌}
use Rattle.arithmetic.specs.Fraction.{whole, ◌/ᶠ◌, round, U}
use Rattle.outcome.specs.Outcome.{Outcome, value, and_then, steps}
use Rattle.basis.specs.Basis.{Basis}
use Rattle.projection.specs.Projection.{rate_of}
use Rattle.survivorship.specs.declared.Kind.{Kind}
use Rattle.survivorship.specs.declared.Kind.TheVariants.{Period, Cohort}

-- the cohort kind moves to the next age and year; the period kind moves the age only
abbrev pub year_on : Kind → ℕ → ℕ → ℕ
year_on Period j year = year
year_on Cohort j year = year + j

-- round(survivors × (U − rate) / U)
abbrev pub survivors_next : ℤ → ℤ → ℤ
survivors_next s q = round (whole (s *ℤ (pos U -ℤ q)) /ᶠ U)

-- the survivors of a year at an age
unfoldable pub survivors_after_year : Basis → ℕ → ℕ → ℤ → Outcome ℤ
survivors_after_year b age year s = and_then (rate_of b age year) (λ q. value (survivors_next s q))

-- the survivors after j + 1 years from those after j
abbrev pub survivors_step : Basis → Kind → ℕ → ℕ → ℕ → ℤ → Outcome ℤ
survivors_step b kind age year j s = survivors_after_year b (age + j) (year_on kind j year) s

-- U at first, then year by year
unfoldable pub survivors_of : Basis → Kind → ℕ → ℕ → ℕ → Outcome ℤ
survivors_of b kind age n year = steps (survivors_step b kind age year) (pos U) n
