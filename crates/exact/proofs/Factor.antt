-- Factor 2d ≤ 2k and rate 2d ≤ 2k + 1: a year's improvement is within one half of the exact one, and its rounding adds another; the
-- rate adds its own. Assumes nothing.
use mathlib.Core.Path.{◌≡◌}
use Prim.Native.Nat.{ℕ, suc, ◌+◌, ◌*◌, ◌-◌, ◌≤◌}
use native.Mathlib.Omega.{arith}
use lib.IntN.{ℤ, pos, nat_abs}
use Rattle.arithmetic.specs.Fraction.{Within, U}
use Rattle.arithmetic.proofs.Distance.{within-whole, within_more, within-difference, within-product, within-lesser}
use Rattle.arithmetic.proofs.UnitRange.{InUnit, unit-whole, unit-abs, unit-mul, unit-rest, unit-lesser}
use Rattle.arithmetic.proofs.Chain.{Chained, chained-first, chained-next}
use Rattle.basis.specs.Basis.{Basis, ConvergenceLimits}
use Rattle.outcome.specs.Outcome.{value}
use Rattle.outcome.proofs.Outcome.{along, came}
use Rattle.improvement.specs.Improvement.{improvement_of}
use Rattle.projection.specs.Projection.{factor_next, factor_step, years_to, factor_of, rate_from, rate_of}
use Rattle.projection.proofs.Cases.{year-value}
use Rattle.improvement.proofs.Cases.{usable-abs}
use Rattle.exact.specs.Model.{exact_improvement, exact_factor_after, exact_factor, exact_rate}
use Rattle.exact.specs.Distance.{NotBelowZero, Improving, rate_distance}
use Rattle.exact.proofs.LimitedLife.{LimitedLife}
use Rattle.exact.proofs.Improvement.{improvement-within, improvement-natural, rest-small, unit-near}

-- what is known of a factor k years after B
abbrev Factored : Basis → ℕ → ℕ → ℤ → Type 0
Factored b age k f = Chained 1 k f (exact_factor_after b age k)

-- one year more, with a usable improvement whose exact one is not below zero
module _ (b : Basis) (age k : ℕ) (f : ℤ) (by_age : ConvergenceLimits (b.by_age age)) (by_birth_year : ConvergenceLimits (b.by_birth_year (b.base + 1 + k - age)))
    (premise : NotBelowZero (exact_improvement b age (b.base + 1 + k))) (usable : nat_abs (improvement_of b age (b.base + 1 + k)) ≤ 500_000_000) where
  factored-next : Factored b age k f → Factored b age (suc k) (factor_next f (improvement_of b age (b.base + 1 + k)))
  unfolding exact_factor_after
  factored-next c =
      let year = b.base + 1 + k in
      let i = improvement_of b age year in
      let near = improvement-within b age year by_age.period_low by_birth_year.period_low in
      let i⁺ = improvement-natural b age year by_age.period_low by_birth_year.period_low premise in
      chained-next c (rest-small i U i⁺ (omega arith)) (unit-rest (unit-near i (exact_improvement b age year) (omega arith) premise near))
      (within-difference (within-whole (pos U)) near)

module _ (b : Basis) (age year : ℕ) (life : LimitedLife b age 0 year) (improving : Improving b age year) where
  high : age ≤ 150
  high = omega (arith, life.age_high)

  factored : (f : ℤ) → factor_of b age year ≡ value f → Factored b age (years_to b year) f
  unfolding factor_of exact_factor_after
  factored f h =
      along (factor_step b age) (pos U) (Factored b age) (years_to b year) (chained-first 1)
      (λ k a g less c q.
      let t = b.base + 1 + k in
      let y = year-value age t (improvement_of b age t) a g q in
      rw y.1
      (factored-next b age k a (life.limits.by_age age life.age_low high)
      (life.limits.by_birth_year (t - age) (omega (arith, life.limits.base_low, high)) (omega (arith, life.birth_high)))
      (improving t (omega arith) (omega arith)) (usable-abs (improvement_of b age t) y.0) c))
      f h

  -- factor: 2d ≤ 2k
  pub factor-within : (f : ℤ) → factor_of b age year ≡ value f → Within f (exact_factor b age year) (2 * years_to b year)
  unfolding exact_factor
  factor-within f h = within_more (factored f h).near (omega arith)

  -- rate: 2d ≤ 2k + 1
  pub rate-within : (q : ℤ) → rate_of b age year ≡ value q → Within q (exact_rate b age year) (rate_distance b (years_to b year))
  unfolding rate_of exact_rate exact_factor
  rate-within q h =
      let w = came (factor_of b age year) (λ f. value (rate_from b age f)) q h in
      let c = factored w.0 w.1 in
      let e : rate_from b age w.0 ≡ q = cc in
      rw (← e)
      (within-lesser (within_more (within-whole (pos U)) (omega arith))
      (within_more (within-product U (omega arith) (within-whole (pos (b.base_rate age))) c.near
      (life.limits.base_rate age life.age_low high) (unit-abs c.unit)) (omega arith)))

  -- an exact rate lies from 0 to U
  pub rate-unit : (q : ℤ) → rate_of b age year ≡ value q → InUnit (exact_rate b age year)
  unfolding rate_of exact_rate exact_factor
  rate-unit q h =
      let w = came (factor_of b age year) (λ f. value (rate_from b age f)) q h in
      unit-lesser (unit-whole U (omega arith)) (unit-mul (unit-whole (b.base_rate age) (life.limits.base_rate age life.age_low high)) (factored w.0 w.1).unit)
