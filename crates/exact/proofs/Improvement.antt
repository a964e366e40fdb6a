-- An improvement is at most one half from the exact one, and not below zero where the exact one is not. Assumes nothing.
use mathlib.Core.Path.{◌≡◌, ◌∙◌}
use mathlib.Core.Bool.{Bool, true, false, cond}
use Prim.Native.Nat.{ℕ, ◌*◌, ◌-◌, ◌≤◌, ◌<◌}
use native.Mathlib.Omega.{arith}
use native.Mathlib.Nat.{mul-le-mul_right, mul-pos}
use lib.IntN.{ℤ, pos, nat_abs, ◌-ℤ◌, ◌*ℤ◌}
use lib.Signed.{◌≤ℤ◌}
use Rattle.arithmetic.specs.Fraction.{Fraction, Within, whole, U}
use Rattle.arithmetic.proofs.Difference.{parts, ring, up, dn, ⊖-eq, ⊖-abs, abs-⊖, ≤-⊖}
use Rattle.arithmetic.proofs.Rounding.{round-natural}
use Rattle.arithmetic.proofs.Distance.{within-whole, within_more, within-round, within-sum}
use Rattle.arithmetic.proofs.UnitRange.{InUnit}
use Rattle.basis.specs.Basis.{Basis}
use Rattle.component.proofs.Parts.{component-proper}
use Rattle.improvement.specs.Improvement.{addition_of, components_of, projected_of, is_actual, improvement_of}
use Rattle.exact.specs.Model.{exact_projected, exact_improvement}
use Rattle.exact.specs.Distance.{NotBelowZero}

-- ---- the improvement: the projection's, and an actual one, which is exact
module _ (b : Basis) (age year : ℕ) (h : 1 ≤ (b.by_age age).period) (k : 1 ≤ (b.by_birth_year (year - age)).period) where
  sum-proper : 0 < (components_of b age year).den
  unfolding components_of
  sum-proper =
      let n = year - b.foundation in
      mul-pos (component-proper (b.by_age age) n h) (component-proper (b.by_birth_year (year - age)) n k)

  projected-within : Within (projected_of b age year) (exact_projected b age year) 1
  unfolding projected_of exact_projected
  projected-within = within-sum (within-round (components_of b age year) sum-proper) (within-whole (addition_of b year))

  projected-natural : NotBelowZero (exact_projected b age year) → pos 0 ≤ℤ projected_of b age year
  unfolding projected_of exact_projected
  projected-natural e = round-natural (components_of b age year) (addition_of b year) sum-proper e

  pub improvement-within : Within (improvement_of b age year) (exact_improvement b age year) 1
  unfolding improvement_of exact_improvement
  improvement-within = by (is_actual b year)
    where
      by : (t : Bool) → Within (cond t (b.actual age year) (projected_of b age year)) (cond t (whole (b.actual age year)) (exact_projected b age year)) 1
      by true = within_more (within-whole (b.actual age year)) (omega arith)
      by false = projected-within

  pub improvement-natural : NotBelowZero (exact_improvement b age year) → pos 0 ≤ℤ improvement_of b age year
  unfolding improvement_of exact_improvement
  improvement-natural e = by (is_actual b year) e
    where
      by : (t : Bool) → NotBelowZero (cond t (whole (b.actual age year)) (exact_projected b age year))
          → pos 0 ≤ℤ cond t (b.actual age year) (projected_of b age year)
      by true e = e
      by false e = projected-natural e

-- ---- what is left of U
-- after a number from 0 to u
pub rest-small : (i : ℤ) (u : ℕ) → pos 0 ≤ℤ i → nat_abs i ≤ u → nat_abs (pos u -ℤ i) ≤ u
rest-small i u h k =
    let h' = ≤-⊖ _ _ _ _ (simp ring at (rw (parts i) at h)) in
    let k' = abs-⊖ _ _ u (rw (parts i) at k) in
    rw (parts i) (simp ring (⊖-abs _ _ _ (omega arith) (omega arith)))

natural : (N : ℤ) → pos 0 ≤ℤ N → (n : ℕ) × (N ≡ pos n)
natural N h = let h' = ≤-⊖ _ _ _ _ (simp ring at (rw (parts N) at h)) in (up N - dn N, parts N ∙ simp ring (⊖-eq _ _ _ _ (omega arith)))

small : (i : ℤ) (n d u v : ℕ) → nat_abs i ≤ v → v < u → nat_abs (i *ℤ pos d -ℤ pos n) ≤ d → n ≤ u * d
small i n d u v h less k =
    let h' = abs-⊖ _ _ v (rw (parts i) at h) in
    let k' = abs-⊖ _ _ d (simp ring at (rw (parts i) at k)) in
    let m = mul-le-mul_right d less in
    let l = mul-le-mul_right d h'.0 in
    omega arith

-- an exact improvement that is not below zero, and within one half of a whole number below U, lies from 0 to U
pub unit-near : (i : ℤ) (E : Fraction) → nat_abs i < U → NotBelowZero E → Within i E 1 → InUnit E
unit-near i E h e k =
    let n = natural E.num e in
    let m : nat_abs (i *ℤ pos E.den -ℤ pos n.0) ≤ E.den = rw (← n.1) (omega (arith, k.near)) in
    record { n = n.0; is = n.1; small = small i n.0 E.den U (nat_abs i) (omega arith) h m }
