-- U and a rate of discount within its limits: a natural number, and how large. Assumes nothing.
use mathlib.Core.Path.{◌≡◌, ◌∙◌, ap}
use Prim.Native.Nat.{◌+◌, ◌-◌, ◌≤◌}
use native.Mathlib.Omega.{arith}
use lib.IntN.{ℤ, pos, neg_ℤ, nat_abs, ◌+ℤ◌}
use lib.Signed.{◌≤ℤ◌, ◌<ℤ◌}
use Rattle.arithmetic.specs.Fraction.{U}
use Rattle.arithmetic.proofs.Difference.{parts, ring, up, dn, has, by-lt, ⊖-eq, ≤-parts}
use Rattle.basis.specs.Basis.{Basis, Limited, accumulation_of}

module _ (d : ℤ) (low : neg_ℤ (pos 10_000_000) ≤ℤ d) where
  total : pos U +ℤ d ≡ pos (U + up d - dn d)
  total = let l = ≤-parts low in ap (λ z. pos U +ℤ z) (parts d) ∙ simp ring (⊖-eq _ _ _ _ (omega arith))

  least : 990_000_000 ≤ nat_abs (pos U +ℤ d)
  least = let l = ≤-parts low in rw total (omega arith)

  size : d ≤ℤ pos 200_000_000 → nat_abs (pos U +ℤ d) ≤ 1_200_000_000
  size high = let h = ≤-parts high in rw total (omega arith)

-- ---- of a basis within its limits: from 0.99 × U to 1.2 × U, and U or more exactly where the rate is not below zero
module _ (b : Basis) (l : Limited b) where
  pub accumulation-low : 990_000_000 ≤ accumulation_of b
  unfolding accumulation_of
  accumulation-low = least b.discount l.discount_low

  pub accumulation-high : accumulation_of b ≤ 1_200_000_000
  unfolding accumulation_of
  accumulation-high = size b.discount l.discount_low l.discount_high

  pub accumulation-grows : pos 0 ≤ℤ b.discount → U ≤ accumulation_of b
  unfolding accumulation_of
  accumulation-grows h = let k = ≤-parts h in rw (total b.discount l.discount_low) (omega arith)

  pub accumulation-shrinks : b.discount <ℤ pos 0 → accumulation_of b ≤ U
  unfolding accumulation_of
  accumulation-shrinks h = let k = by-lt (has b.discount) (has (pos 0)) h in rw (total b.discount l.discount_low) (omega arith)
