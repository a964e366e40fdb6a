-- The expectation: what its loop knows after some years, and what it answers from that. Assumes nothing.
use mathlib.Core.Path.{◌≡◌, ap, sym}
use Prim.Native.Nat.{ℕ, suc, ◌+◌, ◌*◌, ◌-◌, ◌/◌, ◌≤◌, ◌<◌}
use native.Mathlib.Omega.{arith}
use native.Mathlib.Numerals.{add-one}
use lib.IntN.{ℤ, pos, ◌+ℤ◌}
use Rattle.arithmetic.specs.Fraction.{U}
use Rattle.basis.specs.Basis.{Basis}
use Rattle.outcome.specs.Outcome.{Outcome, value, refused, and_then}
use Rattle.outcome.specs.declared.Refusal.{Refusal}
use Rattle.outcome.proofs.Outcome.{sum-none, sum-next, sum-refused}
use Rattle.survivorship.specs.Survivorship.{survivors_of}
use Rattle.valuation.specs.Valuation.{curtate_of, expectation_of}
use Rattle.survivorship.specs.declared.Kind.{Kind}
use Rattle.survivorship.proofs.Survivors.{survivors-first, survivors-small}

-- the survivors after j years, and the sum so far
pub record Living (b : Basis) (kind : Kind) (age year j s total : ℕ) : Type 0 where
  pub people : s ≤ U
  pub sum : total ≤ U * j
  pub survivors : survivors_of b kind age j year ≡ value (pos s)
  pub lived : curtate_of b kind age j year ≡ value (pos total)

module _ (b : Basis) (kind : Kind) (age year : ℕ) where
  pub living-first : Living b kind age year 0 U 0
  unfolding curtate_of
  living-first =
      record {
        people = omega arith;
        sum = omega arith;
        survivors = survivors-first b kind age year;
        lived = sum-none (λ k. survivors_of b kind age (suc k) year);
      }

  -- with the survivors of a year more
  pub living-next : {j s total x : ℕ} → Living b kind age year j s total → survivors_of b kind age (suc j) year ≡ value (pos x)
      → Living b kind age year (j + 1) x (total + x)
  unfolding curtate_of
  living-next {j} {x = x} i h =
      let m = survivors-small b kind age (suc j) year x h in
      rw add-one
      (record {
        people = m;
        sum = omega (arith, i.sum);
        survivors = h;
        lived = sum-next (λ k. survivors_of b kind age (suc k) year) j _ (pos x) i.lived h;
      })

module _ (b : Basis) (kind : Kind) (age deferment year : ℕ) where
  pub lived-refused : {j s total from start : ℕ} {r : Refusal} → from ≡ age + deferment → start ≡ year + deferment → Living b kind from start j s total
      → j < 150 - age - deferment → survivors_of b kind from (suc j) start ≡ refused r → refused r ≡ expectation_of b kind age deferment year
  unfolding expectation_of curtate_of
  lived-refused {j} {from = from} {start} {r} ef es i l h =
      let q = sum-refused (λ k. survivors_of b kind from (suc k) start) j (150 - age - deferment) _ r l i.lived h in
      sym (ap (λ (o : Outcome ℤ). and_then o (λ t. value (pos (U / 2) +ℤ t))) (rw (ef, es) at q))

  pub lived-last : {j s total from start : ℕ} → from ≡ age + deferment → start ≡ year + deferment → Living b kind from start j s total
      → j ≡ 150 - age - deferment → value (pos (500_000_000 + total)) ≡ expectation_of b kind age deferment year
  unfolding expectation_of
  lived-last ef es i ej = sym (ap (λ (o : Outcome ℤ). and_then o (λ t. value (pos (U / 2) +ℤ t))) (rw (ef, es, ej) at i.lived))
