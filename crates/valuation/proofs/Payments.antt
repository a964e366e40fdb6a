-- The annuity: its payments one by one, what its loop knows after some years, and what it answers from that. Assumes nothing.
use mathlib.Core.Path.{◌≡◌, ◌∙◌, ap, sym, refl}
use Prim.Native.Nat.{ℕ, suc, ◌+◌, ◌*◌, ◌-◌, ◌≤◌, ◌<◌}
use native.Mathlib.Omega.{arith}
use native.Mathlib.Numerals.{add-one}
use lib.IntN.{ℤ, pos, ◌+ℤ◌}
use Rattle.arithmetic.specs.Fraction.{U}
use Rattle.arithmetic.proofs.Difference.{parts, ring, ⊖-eq}
use Rattle.basis.specs.Basis.{Basis}
use Rattle.outcome.specs.Outcome.{value, refused, sum_of}
use Rattle.outcome.specs.declared.Refusal.{Refusal}
use Rattle.outcome.proofs.Outcome.{sum-none, sum-next, sum-refused}
use Rattle.survivorship.specs.Survivorship.{survivors_of}
use Rattle.valuation.specs.Valuation.{discount_after, payment, payment_after, annuity_of}
use Rattle.survivorship.specs.declared.Kind.{Kind}
use Rattle.survivorship.proofs.Survivors.{survivors-small}

zero_left : (x : ℤ) → pos 0 +ℤ x ≡ x
zero_left x = rw (parts x) (simp ring (⊖-eq _ _ _ _ (omega arith)))

-- ---- the payments from a deferment on
module _ (b : Basis) (kind : Kind) (age from year : ℕ) where
  pub payment-value : (j : ℕ) (s v : ℤ) → survivors_of b kind age j year ≡ value s → discount_after b j ≡ v → payment_after b kind age j year ≡ value (payment v s)
  unfolding payment_after
  payment-value j s v h k = rw (h, k) refl

  payment-refused : (j : ℕ) (r : Refusal) → survivors_of b kind age j year ≡ refused r → payment_after b kind age j year ≡ refused r
  unfolding payment_after
  payment-refused j r h = rw h refl

  -- those from the deferment to j come to a total
  abbrev pub Paid : ℕ → ℤ → Type 0
  Paid j total = sum_of (λ k. payment_after b kind age (from + k) year) (suc (j - from)) ≡ value total

  paid-first : (s v p : ℤ) → survivors_of b kind age from year ≡ value s → discount_after b from ≡ v → p ≡ payment v s → Paid from p
  paid-first s v p h k e =
      let z : from - from ≡ 0 = omega arith in
      let f : from ≡ from + 0 = omega arith in
      let first = ap (λ j. payment_after b kind age j year) (sym f) ∙ payment-value from s v h k in
      rw z
      (sum-next (λ k. payment_after b kind age (from + k) year) 0 (pos 0) (payment v s) (sum-none _) first ∙ ap value (zero_left (payment v s) ∙ sym e))

  paid-next : (j : ℕ) (total s v p : ℤ) → from ≤ j → Paid j total → survivors_of b kind age (suc j) year ≡ value s → discount_after b (suc j) ≡ v
      → p ≡ payment v s → Paid (suc j) (total +ℤ p)
  paid-next j total s v p l q h k e =
      let z : suc j - from ≡ suc (j - from) = omega arith in
      let f : from + suc (j - from) ≡ suc j = omega arith in
      rw (z, e) (sum-next (λ k. payment_after b kind age (from + k) year) (suc (j - from)) total (payment v s) q
      (ap (λ j. payment_after b kind age j year) f ∙ payment-value (suc j) s v h k))

  -- a refusal after the deferment's end, and one before it
  pub paid-refused : (j : ℕ) (total : ℤ) (r : Refusal) → from ≤ j → j < 150 - age → Paid j total → survivors_of b kind age (suc j) year ≡ refused r
      → refused r ≡ annuity_of b kind age from year
  unfolding annuity_of
  paid-refused j total r l m q h =
      let f : from + suc (j - from) ≡ suc j = omega arith in
      let g = ap (λ j. payment_after b kind age j year) f ∙ payment-refused (suc j) r h in
      sym (sum-refused (λ k. payment_after b kind age (from + k) year) (suc (j - from)) (suc (150 - age - from)) total r (omega arith) q g)

  pub refused-before : (r : Refusal) → survivors_of b kind age from year ≡ refused r → refused r ≡ annuity_of b kind age from year
  unfolding annuity_of
  refused-before r h =
      let f : from + 0 ≡ from = omega arith in
      sym (sum-refused (λ k. payment_after b kind age (from + k) year) 0 (suc (150 - age - from)) (pos 0) r (omega arith) (sum-none _)
      (ap (λ j. payment_after b kind age j year) f ∙ payment-refused from r h))

  -- all of them are the annuity
  pub paid-last : (j : ℕ) (total : ℤ) → j ≡ 150 - age → Paid j total → value total ≡ annuity_of b kind age from year
  unfolding annuity_of
  paid-last j total e q = sym (rw e at q)

pub ruleset within_deferment = (refused-before)

-- ---- what the loop knows after j years: survivors, discount and the payments so far
pub record Paying (b : Basis) (kind : Kind) (age from year j s v total : ℕ) : Type 0 where
  pub begun : from ≤ j
  pub within : j ≤ 150 - age
  pub people : s ≤ U
  pub sum : total ≤ 4 * U * (j + 1)
  pub survivors : survivors_of b kind age j year ≡ value (pos s)
  pub discount : discount_after b j ≡ pos v
  pub paid : Paid b kind age from year j (pos total)

module _ {b : Basis} {kind : Kind} {age from year : ℕ} where
  pub paying-first : {s v p : ℕ} → from ≤ 150 - age → survivors_of b kind age from year ≡ value (pos s) → pos v ≡ discount_after b from
      → (pos p ≡ payment (pos v) (pos s)) × (p ≤ 4 * U) → Paying b kind age from year from s v p
  paying-first {s} {v} {p} l h k q =
      record {
        begun = omega arith;
        within = l;
        people = survivors-small b kind age from year s h;
        sum = omega (arith, q.1);
        survivors = h;
        discount = sym k;
        paid = paid-first b kind age from year (pos s) (pos v) (pos p) h (sym k) q.0;
      }

  pub paying-next : {j s v total x w p : ℕ} → Paying b kind age from year j s v total → j < 150 - age → survivors_of b kind age (suc j) year ≡ value (pos x)
      → discount_after b (suc j) ≡ pos w → (pos p ≡ payment (pos w) (pos x)) × (p ≤ 4 * U) → Paying b kind age from year (j + 1) x w (total + p)
  paying-next {j} {total = total} {x} {w} {p} i l h d q =
      rw add-one
      (record {
        begun = omega (arith, i.begun);
        within = omega arith;
        people = survivors-small b kind age (suc j) year x h;
        sum = omega (arith, i.sum, q.1);
        survivors = h;
        discount = d;
        paid = paid-next b kind age from year j (pos total) (pos x) (pos w) (pos p) i.begun i.paid h d q.0;
      })
