-- An improvement takes the terms of its own birth year; factors, rates, survivors and sums take improvements of birth years that are no later. Assumes
-- nothing.
use mathlib.Core.Path.{◌≡◌, ap, refl}
use Prim.Native.Nat.{ℕ, zero, suc, ◌+◌, ◌-◌, ◌/◌, ◌≤◌}
use native.Mathlib.Omega.{arith}
use lib.IntN.{ℤ, pos, ◌+ℤ◌}
use borrow.Author.Tests.{le-leb}
use Rattle.arithmetic.specs.Fraction.{U}
use Rattle.basis.specs.Basis.{Basis, accumulation_of}
use Rattle.basis.specs.declared.Convergence.{Convergence}
use Rattle.outcome.specs.Outcome.{value, and_then}
use Rattle.improvement.specs.Improvement.{addition_of, components_of, projected_of, improvement_of}
use Rattle.projection.specs.Projection.{factor_from, factor_step, years_to, factor_of, rate_from, rate_of}
use Rattle.survivorship.specs.declared.Kind.{Kind}
use Rattle.survivorship.specs.Survivorship.{year_on, survivors_next, survivors_after_year, survivors_step, survivors_of}
use Rattle.survivorship.proofs.Survivors.{year-early}
use Rattle.valuation.specs.Valuation.{curtate_of, expectation_of, discount_next, discount_after, payment_after, annuity_of}
use Rattle.later_years.specs.BirthYears.{other_after_2110, NoneAfter2110}
use Rattle.later_years.proofs.Same.{steps-same, sum_same}

module _ (b : Basis) (other : ℕ → Convergence) where
  abbrev c : Basis
  c = other_after_2110 b other

  improvement-same : (age year : ℕ) → year ≤ 2110 + age → improvement_of c age year ≡ improvement_of b age year
  unfolding improvement_of projected_of components_of addition_of
  improvement-same age year h = rw (le-leb (year - age) 2110 (omega arith)) refl

  factor-same : (age year : ℕ) → year ≤ 2110 + age → factor_of c age year ≡ factor_of b age year
  unfolding factor_of
  factor-same age year h =
      steps-same (factor_step c age) (factor_step b age) (pos U) (years_to b year)
      (λ k f l. ap (λ i. factor_from age (b.base + 1 + k) i f) (improvement-same age (b.base + 1 + k) (omega arith)))

  rate-same : (age year : ℕ) → year ≤ 2110 + age → rate_of c age year ≡ rate_of b age year
  unfolding rate_of
  rate-same age year h = ap (λ o. and_then o (λ f. value (rate_from b age f))) (factor-same age year h)

  step_same : (age year : ℕ) (s : ℤ) → year ≤ 2110 + age → survivors_after_year c age year s ≡ survivors_after_year b age year s
  unfolding survivors_after_year
  step_same age year s h = ap (λ o. and_then o (λ q. value (survivors_next s q))) (rate-same age year h)

  survivors-same : (kind : Kind) (age n year : ℕ) → year ≤ 2110 + age → survivors_of c kind age n year ≡ survivors_of b kind age n year
  unfolding survivors_of
  survivors-same kind age n year h =
      steps-same (survivors_step c kind age year) (survivors_step b kind age year) (pos U) n
      (λ j s l. step_same (age + j) (year_on kind j year) s (omega (arith, year-early kind j year)))

  expectation-same : (kind : Kind) (age deferment year : ℕ) → year ≤ 2110 + age → expectation_of c kind age deferment year ≡ expectation_of b kind age deferment year
  unfolding expectation_of curtate_of
  expectation-same kind age deferment year h =
      let from = age + deferment in
      let start = year + deferment in
      ap (λ o. and_then o (λ t. value (pos (U / 2) +ℤ t)))
      (sum_same (λ k. survivors_of c kind from (suc k) start) (λ k. survivors_of b kind from (suc k) start) (150 - age - deferment)
      (λ k l. survivors-same kind from (suc k) start (omega arith)))

  discount-same : (j : ℕ) → discount_after c j ≡ discount_after b j
  unfolding discount_after accumulation_of
  discount-same zero = refl
  discount-same (suc j) = ap (λ v. discount_next v (accumulation_of b)) (discount-same j)

  payment-same : (kind : Kind) (age j year : ℕ) → year ≤ 2110 + age → payment_after c kind age j year ≡ payment_after b kind age j year
  unfolding payment_after
  payment-same kind age j year h = rw (discount-same j, survivors-same kind age j year h) refl

  annuity-same : (kind : Kind) (age deferment year : ℕ) → year ≤ 2110 + age → annuity_of c kind age deferment year ≡ annuity_of b kind age deferment year
  unfolding annuity_of
  annuity-same kind age deferment year h =
      sum_same (λ k. payment_after c kind age (deferment + k) year) (λ k. payment_after b kind age (deferment + k) year) (suc (150 - age - deferment))
      (λ k l. payment-same kind age (deferment + k) year h)

  pub none-after-2110 : NoneAfter2110 b other
  none-after-2110 =
      record {
        improvement = improvement-same;
        factor = factor-same;
        rate = rate-same;
        step = step_same;
        survivorship = survivors-same;
        expectation = expectation-same;
        annuity = annuity-same;
      }
