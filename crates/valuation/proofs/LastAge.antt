-- The end of the ages, on every basis, by computation of the definitions. Assumes nothing.
use mathlib.Core.Path.{◌≡◌, refl}
use Prim.Native.Nat.{ℕ, ◌/◌}
use lib.IntN.{pos}
use Rattle.arithmetic.specs.Fraction.{U}
use Rattle.basis.specs.Basis.{Basis}
use Rattle.outcome.specs.Outcome.{value, steps, sum_of}
use Rattle.survivorship.specs.Survivorship.{survivors_of}
use Rattle.valuation.specs.Valuation.{curtate_of, expectation_of, discount_after, payment_after, annuity_of}
use Rattle.survivorship.specs.declared.Kind.{Kind}

-- at age 150 there is no year to come, on any basis: half a unit, and one payment at once
pub expectation-at-end : (b : Basis) (kind : Kind) (year : ℕ) → expectation_of b kind 150 0 year ≡ value (pos (U / 2))
unfolding curtate_of expectation_of steps sum_of
expectation-at-end b kind year = refl

pub annuity-at-end : (b : Basis) (kind : Kind) (year : ℕ) → annuity_of b kind 150 0 year ≡ value (pos U)
unfolding survivors_of discount_after payment_after annuity_of steps sum_of
annuity-at-end b kind year = refl
