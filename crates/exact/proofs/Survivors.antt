-- Survivorship 2d ≤ n(r + 1): each year multiplies by U less a rate within r halves of the exact one. Assumes nothing.
use mathlib.Core.Path.{◌≡◌}
use Prim.Native.Nat.{ℕ, suc, ◌+◌, ◌≤◌, ◌<◌}
use native.Mathlib.Omega.{arith}
use lib.IntN.{ℤ, pos, nat_abs, ◌-ℤ◌}
use Rattle.arithmetic.specs.Fraction.{U}
use Rattle.arithmetic.proofs.Distance.{within-whole, within_more, within-difference}
use Rattle.arithmetic.proofs.UnitRange.{unit-rest}
use Rattle.arithmetic.proofs.Chain.{Chained, chained-first, chained-next}
use Rattle.basis.specs.Basis.{Basis}
use Rattle.outcome.specs.Outcome.{value}
use Rattle.outcome.proofs.Outcome.{along, came}
use Rattle.projection.specs.Projection.{years_to, rate_of}
use Rattle.projection.proofs.Years.{rate-small}
use Rattle.survivorship.specs.Survivorship.{year_on, survivors_next, survivors_after_year, survivors_step, survivors_of}
use Rattle.survivorship.specs.declared.Kind.{Kind}
use Rattle.survivorship.proofs.Survivors.{rest}
use Rattle.exact.specs.Model.{exact_survivors}
use Rattle.exact.specs.Distance.{ImprovingOver, rate_distance}
use Rattle.exact.proofs.LimitedLife.{LimitedLife, later}
use Rattle.exact.proofs.Factor.{rate-within, rate-unit}

-- what is known of the survivors after j years, for any r that is no less than the distance of each rate used
abbrev pub Survived : Basis → Kind → ℕ → ℕ → ℕ → ℕ → ℤ → Type 0
Survived b kind age year r j s = Chained r j s (exact_survivors b kind age j year)

module _ (b : Basis) (kind : Kind) (age year r n : ℕ) (life : LimitedLife b age n year)
    (improving : ImprovingOver b kind age n year) (most : (j : ℕ) → j < n → rate_distance b (years_to b (year_on kind j year)) ≤ r) where
  survived-next : (j : ℕ) (s q : ℤ) → j < n → rate_of b (age + j) (year_on kind j year) ≡ value q → Survived b kind age year r j s
      → Survived b kind age year r (suc j) (survivors_next s q)
  unfolding exact_survivors
  survived-next j s q less h c =
      let m = rate-small b (age + j) (year_on kind j year) q h in
      let then = later life kind j 0 (omega (arith, life.age_high)) in
      let near = rate-within b (age + j) (year_on kind j year) then (improving j less) q h in
      let unit = rate-unit b (age + j) (year_on kind j year) then (improving j less) q h in
      let left : nat_abs (pos U -ℤ q) ≤ U = rw (m.1, rest m.0 m.2) (omega arith) in
      chained-next c left (unit-rest unit) (within_more (within-difference (within-whole (pos U)) near) (omega (arith, most j less)))

  pub survived : (s : ℤ) → survivors_of b kind age n year ≡ value s → Survived b kind age year r n s
  unfolding survivors_of survivors_after_year exact_survivors
  survived s h =
      along (survivors_step b kind age year) (pos U) (Survived b kind age year r) n (chained-first r)
      (λ j a g less c q.
      let w = came (rate_of b (age + j) (year_on kind j year)) (λ q. value (survivors_next a q)) g q in
      let e : survivors_next a w.0 ≡ g = cc in
      rw (← e) (survived-next j a w.0 less w.1 c))
      s h
