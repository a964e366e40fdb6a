-- How large what goes into a component is: nothing passes 64 bits. Assumes nothing.
use mathlib.Core.Path.{◌≡◌}
use Prim.Native.Nat.{ℕ, ◌+◌, ◌*◌, ◌-◌, ◌≤◌, ◌<◌}
use native.Mathlib.Omega.{arith}
use native.Mathlib.Nat.{mul-le-mul, mul-pos}
use lib.IntN.{ℤ, pos, nat_abs, neg_ℤ, ◌-ℤ◌, ◌*ℤ◌}
use Rattle.arithmetic.specs.Round.{floor_div}
use Rattle.arithmetic.proofs.Rounding.{floor-abs}
use Rattle.arithmetic.proofs.Difference.{ring, ⊖-eq, ⊖-abs, nat_abs_mul, nat_abs-add, nat_abs-neg}
use Rattle.component.specs.Component.{slope_of, terms}
use Rattle.basis.specs.Basis.{ConvergenceLimits}

-- 400,000,000 × 2,500 × 5,500,000: no dividend of a component is larger
abbrev most : ℕ
most = 5_500_000_000_000_000_000

pub excess-abs : (I L : ℤ) → nat_abs I ≤ 200_000_000 → nat_abs L ≤ 200_000_000 → nat_abs (I -ℤ L) ≤ 400_000_000
excess-abs I L h k = omega (arith, nat_abs-add I (neg_ℤ L), nat_abs-neg L)

pub grow : (P n : ℕ) → P ≤ 15_000 → 8 * P * n ≤ 120_000 * n
grow P n h = omega (arith, mul-le-mul {n₁ = P} {m₁ = n} {n₂ = 15_000} {m₂ = n} h (omega arith))

pub slope-is : (T P n : ℕ) → pos (10_000 * T + 8 * P * n) -ℤ pos (20_000 * n) ≡ slope_of T P n
slope-is T P n = simp ring (⊖-eq _ _ _ _ (omega arith))

pub slope-abs : (T P n : ℕ) → T ≤ 50 → P ≤ 15_000 → n ≤ T → nat_abs (slope_of T P n) ≤ 5_500_000
slope-abs T P n h k l = rw (← slope-is T P n) (simp ring (⊖-abs _ _ _ (omega (arith, grow P n k)) (omega arith)))

-- for the check of the function that works it out
pub ruleset slopes = (grow, slope-is, slope-abs)

pub square : (k : ℕ) → k ≤ 50 → k * k ≤ 2500
square k h = mul-le-mul {n₁ = k} {m₁ = k} {n₂ = 50} {m₂ = 50} h h

pub cube : (T : ℕ) → T ≤ 50 → T * T * T ≤ 125_000
cube T h = mul-le-mul {n₂ = 2500} {m₂ = 50} (square T h) h

-- 10,000T³
abbrev pub divisor : ℕ → ℕ
divisor T = 10_000 * (T * T * T)

divisor-least : (T : ℕ) → 1 ≤ T → 10_000 ≤ divisor T
divisor-least T h = omega (arith, mul-pos (mul-pos h h) h)

pub divisor-proper : (T : ℕ) → 1 ≤ T → 0 < divisor T
divisor-proper T h = omega (arith, divisor-least T h)

pub divisor-small : (T : ℕ) → T ≤ 50 → divisor T ≤ 1_250_000_000
divisor-small T h = omega (arith, cube T h)

pub inner-abs : (k : ℕ) (s : ℤ) → k ≤ 50 → nat_abs s ≤ 5_500_000 → nat_abs (pos (k * k) *ℤ s) ≤ 13_750_000_000
inner-abs k s h l = omega (arith, nat_abs_mul (pos (k * k)) s, mul-le-mul {n₂ = 2500} {m₂ = 5_500_000} (square k h) l)

pub weighted-abs : (d : ℤ) (k : ℕ) (s : ℤ) → nat_abs d ≤ 400_000_000 → k ≤ 50 → nat_abs s ≤ 5_500_000 → nat_abs (d *ℤ (pos (k * k) *ℤ s)) ≤ most
weighted-abs d k s f g h =
    omega (arith, nat_abs_mul d (pos (k * k) *ℤ s), mul-le-mul {n₂ = 400_000_000} {m₂ = 13_750_000_000} f (inner-abs k s g h))

-- ---- the dividend over 10,000T³, and its whole part
abbrev pub dividend : ℤ → ℤ → ℕ → ℕ → ℕ → ℤ
dividend I L T P n = (I -ℤ L) *ℤ (pos ((T - n) * (T - n)) *ℤ slope_of T P n)

dividend-abs : (I L : ℤ) (T P n : ℕ) → ConvergenceLimits (terms I L T P) → n ≤ T → nat_abs (dividend I L T P n) ≤ most
dividend-abs I L T P n h l =
    weighted-abs (I -ℤ L) (T - n) (slope_of T P n) (excess-abs I L h.initial h.long) (omega (arith, h.period_high)) (slope-abs T P n h.period_high h.remaining l)

-- the largest dividend over the least divisor
abbrev pub greatest_quotient : ℕ
greatest_quotient = 550_000_000_000_000

pub quotient-abs : (I L : ℤ) (T P n : ℕ) → ConvergenceLimits (terms I L T P) → n ≤ T → nat_abs (floor_div (dividend I L T P n) (divisor T)) ≤ greatest_quotient
quotient-abs I L T P n h l =
    let least = divisor-least T h.period_low in
    floor-abs (dividend I L T P n) (divisor T) greatest_quotient (omega (arith, least)) (omega (arith, dividend-abs I L T P n h l, least))
