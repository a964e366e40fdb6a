-- The factor and the rate year by year: what the loop needs, and that both are natural numbers within their bounds; from the laws
-- of `steps`. Assumes nothing.
use mathlib.Core.Path.{◌≡◌, ◌∙◌, ap, sym, refl}
use mathlib.Core.Bool.{true}
use Prim.Native.Nat.{ℕ, suc, ◌+◌, ◌*◌, ◌-◌, ◌/◌, ◌≤◌, ◌<◌}
use native.Mathlib.Omega.{arith}
use native.Mathlib.Decide.{dec_lt}
use lib.IntN.{ℤ, pos, nat_abs, ◌-ℤ◌, ◌*ℤ◌}
use lib.Signed.{le_z}
use borrow.Author.Tests.{leb-true, le-leb, lt-leb}
use Rattle.arithmetic.specs.Round.{round_div}
use Rattle.arithmetic.specs.Fraction.{U, lesser_ℤ}
use Rattle.arithmetic.proofs.Difference.{rest-natural}
use Rattle.basis.specs.Basis.{Basis}
use Rattle.outcome.specs.Outcome.{Outcome, value, and_then, steps}
use Rattle.outcome.proofs.Outcome.{next, along, came}
use Rattle.improvement.specs.Improvement.{improvement_of}
use Rattle.projection.specs.Bounded.{AtMost}
use Rattle.projection.specs.Projection.{factor_next, factor_from, factor_step, years_to, factor_of, rate_from, rate_of}
use Rattle.projection.proofs.Cases.{year-value}
use Rattle.improvement.proofs.Cases.{usable-abs}

-- the factor after an improvement of at most U is a natural number
next-natural : (f : ℕ) (i : ℤ) → nat_abs i ≤ 500_000_000 → (n : ℕ) × (factor_next (pos f) i ≡ pos n)
next-natural f i h =
    ((2 * (f * nat_abs (pos U -ℤ i)) + U) / (2 * U), ap (λ (z : ℤ). round_div (pos f *ℤ z) U) (sym (rest-natural U i (omega arith))))

-- the lesser of U and a natural number
least : (q : ℕ) → q < U → pos q ≡ lesser_ℤ (pos U) (pos q)
least q h = rw (lt-leb U q h) refl

most : (q : ℕ) → U ≤ q → pos U ≡ lesser_ℤ (pos U) (pos q)
most q h = rw (le-leb U q h) refl

-- a year's factor is at most 4 × U
pub year-small : (age year : ℕ) (i f : ℤ) (g : ℕ) → factor_from age year i f ≡ value (pos g) → g ≤ 4_000_000_000
year-small age year i f g h = leb-true g 4_000_000_000 (year-value age year i f (pos g) h).2

module _ (b : Basis) (age : ℕ) where
  -- ---- the factor
  -- a year after B is the definition's step
  year-is : {base : ℕ} (k : ℕ) (f : ℤ) → base ≡ b.base →
      factor_from age (base + 1 + k) (improvement_of b age (base + 1 + k)) f ≡ factor_step b age k f
  year-is k f e = cc

  -- one year more
  pub turn : {base : ℕ} (k : ℕ) (f : ℤ) {o : Outcome ℤ} → base ≡ b.base → steps (factor_step b age) (pos U) k ≡ value f →
      o ≡ factor_from age (base + 1 + k) (improvement_of b age (base + 1 + k)) f → steps (factor_step b age) (pos U) (suc k) ≡ o
  turn k f e h g = next (factor_step b age) (pos U) k f h ∙ sym (g ∙ year-is k f e)

  -- what the last year gives is the answer
  pub ended : (year n : ℕ) (o : Outcome ℤ) → n ≡ years_to b year → steps (factor_step b age) (pos U) n ≡ o → o ≡ factor_of b age year
  unfolding factor_of
  ended year n o e h = sym h ∙ ap (λ (m : ℕ). steps (factor_step b age) (pos U) m) e

  -- the steps by the years since B
  pub steps_of : (k : ℕ) → factor_of b age (b.base + k) ≡ steps (factor_step b age) (pos U) k
  unfolding factor_of
  steps_of k = let e : b.base + k - b.base ≡ k = omega arith in rw e refl

  -- each year takes one more
  pub goes_on : (k : ℕ) →
      factor_of b age (b.base + suc k) ≡ and_then (factor_of b age (b.base + k)) (λ f. factor_from age (b.base + k + 1) (improvement_of b age (b.base + k + 1)) f)
  unfolding steps
  goes_on k =
      let e : b.base + 1 + k ≡ b.base + k + 1 = omega arith in
      rw (steps_of k, steps_of (suc k))
      (ap (λ (year : ℕ). and_then (steps (factor_step b age) (pos U) k) (λ f. factor_from age year (improvement_of b age year) f)) e)

  pub factor_small : (year f : ℕ) → factor_of b age year ≡ value (pos f) → f ≤ 4_000_000_000
  unfolding factor_of
  factor_small year f h =
      leb-true f 4_000_000_000
      (along (factor_step b age) (pos U) (λ k a. le_z a (pos 4_000_000_000) ≡ true) (years_to b year) refl
      (λ k a g l p q. (year-value age (b.base + 1 + k) (improvement_of b age (b.base + 1 + k)) a g q).2) (pos f) h)

  pub factor-bounded : {o : Outcome ℤ} (year : ℕ) → o ≡ factor_of b age year → AtMost 4_000_000_000 o
  factor-bounded year e f h = factor_small year f (sym e ∙ h)

  -- and a natural number
  pub factor-natural : (year : ℕ) (f : ℤ) → factor_of b age year ≡ value f → (n : ℕ) × (f ≡ pos n)
  unfolding factor_of
  factor-natural year f h =
      along (factor_step b age) (pos U) (λ k a. (n : ℕ) × (a ≡ pos n)) (years_to b year) (U, refl)
      (λ k a g l p q.
      let year = b.base + 1 + k in
      let i = improvement_of b age year in
      let y = year-value age year i a g q in
      let z = next-natural p.0 i (usable-abs i y.0) in
      (z.0, y.1 ∙ ap (λ (x : ℤ). factor_next x i) p.1 ∙ z.1)) f h

  -- ---- the rate
  -- from what the factor is, wherever that was worked out
  pub rate-by-factor : {o : Outcome ℤ} (year : ℕ) → o ≡ factor_of b age year → and_then o (λ f. value (rate_from b age f)) ≡ rate_of b age year
  unfolding rate_of
  rate-by-factor year e = ap (λ o. and_then o (λ f. value (rate_from b age f))) e

  -- a rate is a natural number from 0 to U
  rate-natural : (f : ℕ) → (q : ℕ) × (rate_from b age (pos f) ≡ pos q) × (q ≤ U)
  rate-natural f = by ((2 * (b.base_rate age * f) + U) / (2 * U))
    where
      by : (n : ℕ) → (q : ℕ) × (lesser_ℤ (pos U) (pos n) ≡ pos q) × (q ≤ U)
      by n = at (dec_lt n U)
        where
          at : Dec (n < U) → (q : ℕ) × (lesser_ℤ (pos U) (pos n) ≡ pos q) × (q ≤ U)
          at (yes l) = (n, sym (least n l), omega arith)
          at (no l) = (U, sym (most n (omega arith)), omega arith)

  pub rate-small : (year : ℕ) (q : ℤ) → rate_of b age year ≡ value q → (n : ℕ) × (q ≡ pos n) × (n ≤ U)
  unfolding rate_of
  rate-small year q h =
      let w = came (factor_of b age year) (λ f. value (rate_from b age f)) q h in
      let f = factor-natural year w.0 w.1 in
      let n = rate-natural f.0 in
      let e : q ≡ rate_from b age w.0 = cc in
      (n.0, e ∙ ap (λ (z : ℤ). rate_from b age z) f.1 ∙ n.1, n.2)

  pub rate_at_most : (year q : ℕ) → rate_of b age year ≡ value (pos q) → q ≤ U
  rate_at_most year q h = let n = rate-small year (pos q) h in let f : q ≡ n.0 = cc in omega (arith, n.2)
