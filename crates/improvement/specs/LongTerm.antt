-- The improvements after every convergence (01, "Weight": from T years after F on it is 0; 02, change 9): F is at most 2080 and T at most 50,
-- so from 2130 on an improvement is the long-term rates, age plus birth year, plus the addition. Their limits add up to exactly 500,000,000, so
-- that 9 is given in none of these years.
use Rattle.std.specs.Prelude.{◌≡◌, ℕ, ◌+◌, ◌-◌, ◌≤◌, ℤ, ◌+ℤ◌}
use Rattle.basis.specs.Basis.{Basis, Limited}
use Rattle.outcome.specs.Outcome.{value}
use Rattle.improvement.specs.Improvement.{improvement_of, improvement_needed}

-- the long-term rates, age plus birth year, plus the addition
abbrev pub long_term_improvement : Basis → ℕ → ℕ → ℤ
long_term_improvement b age year = (b.by_age age).long +ℤ (b.by_birth_year (year - age)).long +ℤ b.addition

-- at every age in every year from 2130 on whose birth year is at most 2110
pub record LongTermFrom2130 (b : Basis) : Type 0 where
  pub improvement : Limited b → (age year : ℕ) → 20 ≤ age → age ≤ 150 → 2130 ≤ year → year ≤ 2110 + age →
      improvement_of b age year ≡ long_term_improvement b age year
  -- and it stands
  pub never_beyond : Limited b → (age year : ℕ) → 20 ≤ age → age ≤ 150 → 2130 ≤ year → year ≤ 2110 + age →
      improvement_needed age year (improvement_of b age year) ≡ value (long_term_improvement b age year)
