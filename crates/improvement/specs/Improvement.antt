-- Improvement (01, "The projection"; 02, changes 2 and 3), with refusal 9.
use Rattle.std.specs.Prelude.{ℕ, ◌+◌, ◌-◌, Bool, cond, ◌&&◌, ltb, leb, ℤ, pos, nat_abs, ◌+ℤ◌}
use Rattle.arithmetic.specs.Fraction.{Fraction, ◌+ᶠ◌, round}
use Rattle.outcome.specs.Outcome.{Outcome, value, refused, refusal}
use Rattle.basis.specs.Basis.{Basis}
use Rattle.basis.specs.declared.Convergence.{Convergence}
use Rattle.component.specs.Component.{component_of}

-- ---- the projection's, at an age in a year from F on
-- the constant addition, if the year is after F
unfoldable pub addition_of : Basis → ℕ → ℤ
addition_of b year = cond (ltb b.foundation year) b.addition (pos 0)

-- the terms of the birth year, which is the calendar year less the age
abbrev pub birth_terms : Basis → ℕ → ℕ → Convergence
birth_terms b age year = b.by_birth_year (year - age)

-- the two components' exact sum
unfoldable pub components_of : Basis → ℕ → ℕ → Fraction
components_of b age year =
    component_of (b.by_age age) (year - b.foundation) +ᶠ component_of (birth_terms b age year) (year - b.foundation)

-- it is rounded once; plus the constant addition
unfoldable pub projected_of : Basis → ℕ → ℕ → ℤ
projected_of b age year = round (components_of b age year) +ℤ addition_of b year

-- ---- Improvement
-- where the base table is older than F, the years from B + 1 to F have actual improvements
abbrev pub is_actual : Basis → ℕ → Bool
is_actual b year = ltb b.base year && leb year b.foundation

-- these are the history's, and take no constant addition; those of all other years are the projection's
unfoldable pub improvement_of : Basis → ℕ → ℕ → ℤ
improvement_of b age year = cond (is_actual b year) (b.actual age year) (projected_of b age year)

-- the first year that has an improvement: F, and B + 1 with B before F
unfoldable pub first_year : Basis → ℕ
first_year b = cond (ltb b.base b.foundation) (b.base + 1) b.foundation

-- 9: an improvement needed for the answer is beyond ±500,000,000
abbrev pub improvement_limit : ℕ
improvement_limit = 500_000_000

abbrev pub usable : ℤ → Bool
usable improvement = leb (nat_abs improvement) improvement_limit

unfoldable pub improvement_needed : ℕ → ℕ → ℤ → Outcome ℤ
improvement_needed age year improvement = cond (usable improvement) (value improvement) (refused (refusal 9 age year))
