-- 01's sentence on the long-term rate by age: S to age 90, round(S × (120 − age) / 30) from 91 to 119, and 0 from 120; and its size.
-- Assumes nothing.
use mathlib.Core.Path.{◌≡◌}
use Prim.Native.Nat.{ℕ, ◌*◌, ◌-◌, ◌≤◌}
use native.Mathlib.Nat.{mul-le-mul, mul-zero}
use native.Mathlib.Omega.{arith}
use lib.IntN.{ℤ, pos, negsuc, nat_abs, ◌+ℤ◌, ◌*ℤ◌}
use lib.Signed.{◌≤ℤ◌, ◌<ℤ◌}
use Rattle.arithmetic.specs.Round.{round_div}
use Rattle.arithmetic.proofs.Difference.{parts, ring, ⊖-≤, ⊖-<, nat_abs_mul}
use Rattle.arithmetic.proofs.Rounding.{floor-is, round-abs-le}
use Rattle.short_form.specs.ShortForm.{share_of, long_term_of}

-- ---- the sentence
-- thirty thirtieths
whole : (z : ℤ) → round_div (z *ℤ pos 30) 30 ≡ z
whole z =
    let low : (pos 60 *ℤ z) ≤ℤ (pos 2 *ℤ (z *ℤ pos 30) +ℤ pos 30) = rw (parts z) (simp ring (⊖-≤ _ _ _ _ (omega arith))) in
    let high : (pos 2 *ℤ (z *ℤ pos 30) +ℤ pos 30) <ℤ (pos 60 *ℤ z +ℤ pos 60) = rw (parts z) (simp ring (⊖-< _ _ _ _ (omega arith))) in
    floor-is (pos 2 *ℤ (z *ℤ pos 30) +ℤ pos 30) z 60 (omega arith) low high

none : (z : ℤ) → z *ℤ pos 0 ≡ pos 0
none (pos n) = rw mul-zero
none (negsuc n) = rw mul-zero

module _ (rate : ℤ) (age : ℕ) where
  pub full-rate : age ≤ 90 → long_term_of rate age ≡ rate
  full-rate h = let e : share_of age ≡ 30 = omega arith in rw e (whole rate)

  pub running-off : 90 ≤ age → long_term_of rate age ≡ round_div (rate *ℤ pos (120 - age)) 30
  running-off h = let e : share_of age ≡ 120 - age = omega arith in rw e

  pub run-off : 120 ≤ age → long_term_of rate age ≡ pos 0
  run-off h = let e : share_of age ≡ 0 = omega arith in rw (e, none rate)

-- ---- the size
pub share-most : (age : ℕ) → share_of age ≤ 30
share-most age = omega arith

module _ (rate : ℤ) (age limit : ℕ) (h : nat_abs rate ≤ limit) where
  pub product-size : nat_abs (rate *ℤ pos (share_of age)) ≤ limit * 30
  product-size = rw (nat_abs_mul rate (pos (share_of age))) (mul-le-mul h (share-most age))

  pub long-term-size : nat_abs (long_term_of rate age) ≤ limit
  long-term-size = round-abs-le (rate *ℤ pos (share_of age)) 30 limit (omega arith) product-size
