-- Factor and rate (01, "The projection"; 02, change 9), with refusals 9 and 10 in the order of the work.
use Rattle.std.specs.Prelude.{ℕ, ◌+◌, ◌-◌, cond, ℤ, pos, ◌-ℤ◌, ◌*ℤ◌}
use Rattle.std.specs.Int.Signed.{le_z}
use Rattle.arithmetic.specs.Fraction.{whole, ◌/ᶠ◌, round, lesser_ℤ, U}
use Rattle.outcome.specs.Outcome.{Outcome, value, refused, and_then, refusal, steps}
use Rattle.basis.specs.Basis.{Basis}
use Rattle.improvement.specs.Improvement.{improvement_of, improvement_needed}

-- ---- Factor at an age
-- round(last year's factor × (U − improvement) / U)
abbrev pub factor_next : ℤ → ℤ → ℤ
factor_next factor improvement = round (whole (factor *ℤ (pos U -ℤ improvement)) /ᶠ U)

-- 10: a factor needed is above 4 × U
unfoldable pub factor_needed : ℕ → ℕ → ℤ → Outcome ℤ
factor_needed age year factor = cond (le_z factor (pos 4_000_000_000)) (value factor) (refused (refusal 10 age year))

-- a year's factor from its improvement and last year's factor, 9 before 10
unfoldable pub factor_from : ℕ → ℕ → ℤ → ℤ → Outcome ℤ
factor_from age year improvement factor = and_then (improvement_needed age year improvement) (λ i. factor_needed age year (factor_next factor i))

-- the factor of B + 1 + k from that of B + k
abbrev pub factor_step : Basis → ℕ → ℕ → ℤ → Outcome ℤ
factor_step b age k factor = factor_from age (b.base + 1 + k) (improvement_of b age (b.base + 1 + k)) factor

-- k, the years from B to the year
abbrev pub years_to : Basis → ℕ → ℕ
years_to b year = year - b.base

-- U in year B, then year by year; each year after 2130 takes the long-term rates and the addition (02, change 9), which is what an improvement is there
unfoldable pub factor_of : Basis → ℕ → ℕ → Outcome ℤ
factor_of b age year = steps (factor_step b age) (pos U) (years_to b year)

-- ---- Rate: the lesser of U and round(base rate × factor / U)
abbrev pub rate_from : Basis → ℕ → ℤ → ℤ
rate_from b age factor = lesser_ℤ (pos U) (round (whole (pos (b.base_rate age) *ℤ factor) /ᶠ U))

unfoldable pub rate_of : Basis → ℕ → ℕ → Outcome ℤ
rate_of b age year = and_then (factor_of b age year) (λ f. value (rate_from b age f))
