-- The year sweep (02, changes 5 and 9): the factors of all ages, advanced one year per step.
use Rattle.std.specs.Prelude.{ℕ, zero, suc, ◌+◌, Bool, cond, ltb, ℤ, pos}
use Rattle.arithmetic.specs.Fraction.{U}
use Rattle.outcome.specs.Outcome.{Outcome, value, and_then}
use Rattle.basis.specs.Basis.{Basis}
use Rattle.improvement.specs.Improvement.{improvement_of}
use Rattle.projection.specs.Projection.{factor_from}

-- a state has for each age the factor, or that age's first refusal
abbrev pub State : Type 0
State = ℕ → Outcome ℤ

-- it starts in B with U at every age
abbrev pub sweep_start : State
sweep_start age = value (pos U)

-- a factor from a year to the next, by the next year's improvement
abbrev pub factor_on : Basis → ℕ → ℕ → ℤ → Outcome ℤ
factor_on b age year factor = factor_from age (year + 1) (improvement_of b age (year + 1)) factor

-- has an age a factor of the next year? The last is that of the birth year 2110; from then on the age's factor is left as it stands
abbrev pub has_next_year : ℕ → ℕ → Bool
has_next_year age year = ltb year (2110 + age)

-- the year whose factor an age has then: the lesser of the year and that of the birth year 2110
unfoldable pub swept_year : ℕ → ℕ → ℕ
swept_year age year = cond (has_next_year age year) year (2110 + age)

-- one age from a year to the next; a refusal stays
unfoldable pub advanced_factor : Basis → ℕ → ℕ → Outcome ℤ → Outcome ℤ
advanced_factor b age year last = cond (has_next_year age year) (and_then last (factor_on b age year)) last

-- one step: every age by itself
abbrev pub sweep_step : Basis → ℕ → State → State
sweep_step b year state age = advanced_factor b age year (state age)

-- the state after k steps from B
unfoldable pub sweep_after : Basis → ℕ → State
sweep_after b zero = sweep_start
sweep_after b (suc k) = sweep_step b (b.base + k) (sweep_after b k)
