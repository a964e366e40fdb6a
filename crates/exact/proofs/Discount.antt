-- The discount beside the exact one: one half more a year at a rate not below zero, at most four times that at one below. Assumes
-- nothing.
use Prim.Native.Nat.{ℕ, zero, suc, ◌*◌, ◌≤◌}
use native.Mathlib.Omega.{arith}
use lib.IntN.{pos, nat_abs}
use lib.Signed.{◌≤ℤ◌, ◌<ℤ◌}
use Rattle.arithmetic.specs.Fraction.{Within, U}
use Rattle.arithmetic.proofs.Distance.{within_more}
use Rattle.arithmetic.proofs.Chain.{Chained, chained-first, chained-share}
use Rattle.arithmetic.proofs.Growth.{Growing, growing-first, growing-next, growing-near, grown-small}
use Rattle.basis.specs.Basis.{Basis, Limited, accumulation_of}
use Rattle.basis.proofs.Accumulation.{accumulation-low, accumulation-grows, accumulation-shrinks}
use Rattle.valuation.specs.Valuation.{discount_after}
use Rattle.exact.specs.Model.{exact_discount}

-- after j years it is at most w × U, and w × j halves from the exact one
pub record Discounted (b : Basis) (w j : ℕ) : Type 0 where
  pub size : nat_abs (discount_after b j) ≤ w * U
  pub near : Within (discount_after b j) (exact_discount b j) (w * j)

module _ (b : Basis) (limits : Limited b) where
  falling : pos 0 ≤ℤ b.discount → (j : ℕ) → Chained 0 j (discount_after b j) (exact_discount b j)
  unfolding discount_after exact_discount
  falling h zero = chained-first 0
  falling h (suc j) = chained-share (accumulation_of b) (accumulation-grows b limits h) (falling h j)

  rising : b.discount <ℤ pos 0 → (j : ℕ) → Growing j (discount_after b j) (exact_discount b j)
  unfolding discount_after exact_discount
  rising h zero = growing-first
  rising h (suc j) = growing-next (accumulation_of b) (accumulation-low b limits) (accumulation-shrinks b limits h) (rising h j)

  pub discounted : pos 0 ≤ℤ b.discount → (j : ℕ) → j ≤ 130 → Discounted b 1 j
  discounted h j l = let c = falling h j in record { size = omega (arith, c.size); near = within_more c.near (omega arith) }

  pub discounted-below-zero : b.discount <ℤ pos 0 → (j : ℕ) → j ≤ 130 → Discounted b 4 j
  discounted-below-zero h j l = let c = rising h j in record { size = omega (arith, c.size, grown-small j l); near = growing-near c l }
