-- From 2130 on both weights are 0 and no year is actual: the sum of two whole numbers is rounded to itself, and is within ±500,000,000 with
-- the addition. Assumes nothing.
use mathlib.Core.Path.{◌≡◌, ◌∙◌, ap, sym}
use Prim.Native.Nat.{ℕ, ◌+◌, ◌-◌, ◌≤◌, ◌<◌}
use native.Mathlib.Omega.{arith}
use lib.IntN.{ℤ, pos, nat_abs, ◌+ℤ◌, ◌*ℤ◌}
use borrow.Author.Tests.{le-leb}
use Rattle.arithmetic.specs.Fraction.{Fraction, ◌+ᶠ◌, round}
use Rattle.arithmetic.specs.MixedNumbers.{mixed_of, fraction_of}
use Rattle.arithmetic.specs.declared.Mixed.{Mixed}
use Rattle.arithmetic.proofs.Difference.{parts, ring, ⊖-≤, ⊖-<, nat_abs-add}
use Rattle.arithmetic.proofs.Rounding.{floor-is}
use Rattle.arithmetic.proofs.Remainders.{mixed, sum-of-parts}
use Rattle.basis.specs.Basis.{Basis, Limited, ConvergenceLimits}
use Rattle.basis.specs.declared.Convergence.{Convergence}
use Rattle.component.specs.Component.{component_of}
use Rattle.component.proofs.Parts.{component-proper, component-after}
use Rattle.outcome.specs.Outcome.{value}
use Rattle.improvement.specs.Improvement.{components_of, projected_of, improvement_of, improvement_needed}
use Rattle.improvement.specs.LongTerm.{long_term_improvement, LongTermFrom2130}
use Rattle.improvement.proofs.Cases.{addition-after, after-foundation, needed-usable}

-- parts that are those of two fractions
pub sum_of : {m n : Mixed} (p q : Fraction) → m ≡ mixed_of p → n ≡ mixed_of q → 0 < p.den → 0 < q.den → round (fraction_of m +ᶠ fraction_of n) ≡ round (p +ᶠ q)
sum_of p q e f h k = rw (e, f) (sum-of-parts p q h k)

-- the sum of two whole numbers
sum-whole : (L M : ℤ) → round (fraction_of (mixed L 0 1) +ᶠ fraction_of (mixed M 0 1)) ≡ L +ℤ M
sum-whole L M =
    floor-is (pos 2 *ℤ ((L *ℤ pos 1 +ℤ pos 0) *ℤ pos 1 +ℤ (M *ℤ pos 1 +ℤ pos 0) *ℤ pos 1) +ℤ pos 1) (L +ℤ M) 2 (omega arith)
    (rw (parts L, parts M) (simp ring (⊖-≤ _ _ _ _ (omega arith)))) (rw (parts L, parts M) (simp ring (⊖-< _ _ _ _ (omega arith))))

-- two components from their T on
sum-long : (c d : Convergence) (n : ℕ) → ConvergenceLimits c → ConvergenceLimits d → 50 ≤ n → round (component_of c n +ᶠ component_of d n) ≡ c.long +ℤ d.long
sum-long c d n h k l =
    sym (sum_of (component_of c n) (component_of d n) (long c h) (long d k) (component-proper c n h.period_low) (component-proper d n k.period_low))
    ∙ sum-whole c.long d.long
  where
    long : (x : Convergence) → ConvergenceLimits x → mixed x.long 0 1 ≡ mixed_of (component_of x n)
    long x limits = sym (component-after x.initial x.long x.period x.remaining n (omega (arith, limits.period_high)))

module _ (b : Basis) (limits : Limited b) (age year : ℕ) (low : 20 ≤ age) (high : age ≤ 150) (from : 2130 ≤ year) (upto : year ≤ 2110 + age) where
  birth : ConvergenceLimits (b.by_birth_year (year - age))
  birth = limits.by_birth_year (year - age) (omega arith) (omega arith)

  is-long-term : improvement_of b age year ≡ long_term_improvement b age year
  unfolding improvement_of projected_of components_of
  is-long-term =
      let n = year - b.foundation in
      let early = limits.foundation_high in
      rw (after-foundation b year (omega arith), addition-after b year (omega arith))
      (ap (λ (z : ℤ). z +ℤ b.addition) (sum-long (b.by_age age) (b.by_birth_year (year - age)) n (limits.by_age age low high) birth (omega arith)))

  -- 200,000,000 and 200,000,000 and 100,000,000
  within-limit : nat_abs (long_term_improvement b age year) ≤ 500_000_000
  within-limit =
      let L = (b.by_age age).long in
      let M = (b.by_birth_year (year - age)).long in
      omega (arith, nat_abs-add (L +ℤ M) b.addition, nat_abs-add L M, (limits.by_age age low high).long, birth.long, limits.addition)

  stands : improvement_needed age year (improvement_of b age year) ≡ value (long_term_improvement b age year)
  stands = rw is-long-term (needed-usable age year (long_term_improvement b age year) (le-leb (nat_abs (long_term_improvement b age year)) 500_000_000 within-limit))

pub long-term-from-2130 : (b : Basis) → LongTermFrom2130 b
long-term-from-2130 b = record { improvement = is-long-term b; never_beyond = stands b }
