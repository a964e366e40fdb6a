-- The discount year by year, and the bound that carries the ranges of an annuity: below 4 × U for 130 years. Assumes nothing.
use mathlib.Core.Path.{◌≡◌, refl}
use Prim.Native.Nat.{ℕ, zero, suc, ◌+◌, ◌*◌, ◌/◌, ◌≤◌, ◌<◌}
use native.Mathlib.Omega.{arith}
use lib.IntN.{ℤ, pos}
use Rattle.arithmetic.specs.Fraction.{U}
use Rattle.arithmetic.proofs.Rounding.{round-abs-le}
use Rattle.arithmetic.proofs.Growth.{grown, grown-share, grown-small}
use mathlib.Core.List.{List}
use Rattle.basis.specs.Basis.{Basis, basis_of, Limited, accumulation_of}
use Rattle.history.specs.History.{basis_with}
use Rattle.history.proofs.With.{accumulation-with}
use Rattle.basis.proofs.Accumulation.{accumulation-low, accumulation-high}
use Rattle.valuation.specs.Valuation.{discount_next, discount_after}

-- the discount of one year more
pub discount-turn : (b : Basis) (j : ℕ) (v : ℤ) {accumulation : ℕ} → accumulation ≡ accumulation_of b → discount_after b j ≡ v
    → discount_after b (suc j) ≡ discount_next v accumulation
unfolding discount_after
discount-turn b j v e h = rw (h, e) refl

-- a history does not change it
pub discount-with : (run history : List ℕ) (j : ℕ) → discount_after (basis_of run) j ≡ discount_after (basis_with run history) j
unfolding discount_after
discount-with run history zero = refl
discount-with run history (suc j) = rw (discount-with run history j, accumulation-with run history) refl

module _ (b : Basis) (limits : Limited b) where
  natural : (j : ℕ) → (v : ℕ) × (discount_after b j ≡ pos v) × (v ≤ grown j)
  unfolding discount_after grown
  natural zero = (U, refl, omega arith)
  natural (suc j) =
      let p = natural j in
      let d = accumulation_of b in
      let low = accumulation-low b limits in (
        (2 * (p.0 * U) + d) / (2 * d),
        rw p.1 refl,
        round-abs-le (pos (p.0 * U)) d (grown (suc j)) (omega arith)
            (omega (arith, grown-share j p.0 1 d low (omega (arith, p.2)))),
      )

  pub discount-natural : (j : ℕ) → j ≤ 130 → (v : ℕ) × (discount_after b j ≡ pos v) × (v < 4 * U)
  discount-natural j l = let p = natural j in (p.0, p.1, omega (arith, p.2, grown-small j l))

  pub discount-small : (j v : ℕ) → j ≤ 130 → discount_after b j ≡ pos v → v < 4 * U
  discount-small j v l h = let p = discount-natural j l in let e : v ≡ p.0 = cc in omega (arith, p.2)

  -- what the work of one year more asks for
  pub discount-ranges : (j v : ℕ) {accumulation : ℕ} → j ≤ 130 → discount_after b j ≡ pos v → accumulation ≡ accumulation_of b →
      (v ≤ 4 * U) × (990_000_000 ≤ accumulation) × (accumulation ≤ 1_200_000_000)
  discount-ranges j v l h e = (
    omega (arith, discount-small j v l h),
    omega (arith, e, accumulation-low b limits),
    omega (arith, e, accumulation-high b limits),
  )

pub ruleset year_by_year = (discount-turn, discount-ranges)
