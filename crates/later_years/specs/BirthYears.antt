-- Which birth years an answer reads: none after 2110 (01: "A birth year is calendar year less age, 1842 to 2110"). Ages are from 20 on and the years
-- that may be asked for end in 2130, so that every question has a birth year up to 2110, and a life keeps its own or comes to an earlier one.
use Rattle.std.specs.Prelude.{◌≡◌, cond, ℕ, ◌+◌, ◌≤◌, leb, ℤ}
use Rattle.basis.specs.Basis.{Basis}
use Rattle.basis.specs.declared.Convergence.{Convergence}
use Rattle.improvement.specs.Improvement.{improvement_of}
use Rattle.projection.specs.Projection.{factor_of, rate_of}
use Rattle.survivorship.specs.declared.Kind.{Kind}
use Rattle.survivorship.specs.Survivorship.{survivors_after_year, survivors_of}
use Rattle.valuation.specs.Valuation.{expectation_of, annuity_of}

-- a basis with any other terms of the birth years after 2110
abbrev pub other_after_2110 : Basis → (ℕ → Convergence) → Basis
other_after_2110 b other =
    record {
      foundation = b.foundation;
      base = b.base;
      addition = b.addition;
      discount = b.discount;
      base_rate = b.base_rate;
      by_age = b.by_age;
      by_birth_year = λ year. cond (leb year 2110) (b.by_birth_year year) (other year);
      actual = b.actual;
    }

-- whatever they are, nothing that is worked out for a birth year up to 2110 changes, refusals included
pub record NoneAfter2110 (b : Basis) (other : ℕ → Convergence) : Type 0 where
  pub improvement : (age year : ℕ) → year ≤ 2110 + age → improvement_of (other_after_2110 b other) age year ≡ improvement_of b age year
  pub factor : (age year : ℕ) → year ≤ 2110 + age → factor_of (other_after_2110 b other) age year ≡ factor_of b age year
  pub rate : (age year : ℕ) → year ≤ 2110 + age → rate_of (other_after_2110 b other) age year ≡ rate_of b age year
  -- a lifeline's step
  pub step : (age year : ℕ) (s : ℤ) → year ≤ 2110 + age → survivors_after_year (other_after_2110 b other) age year s ≡ survivors_after_year b age year s
  pub survivorship : (kind : Kind) (age n year : ℕ) → year ≤ 2110 + age → survivors_of (other_after_2110 b other) kind age n year ≡ survivors_of b kind age n year
  pub expectation : (kind : Kind) (age deferment year : ℕ) → year ≤ 2110 + age →
      expectation_of (other_after_2110 b other) kind age deferment year ≡ expectation_of b kind age deferment year
  pub annuity : (kind : Kind) (age deferment year : ℕ) → year ≤ 2110 + age →
      annuity_of (other_after_2110 b other) kind age deferment year ≡ annuity_of b kind age deferment year
