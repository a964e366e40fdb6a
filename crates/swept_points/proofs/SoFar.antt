-- The values of a life: what their loop knows after some years, and what it answers from that. Assumes nothing.
use mathlib.Core.Path.{◌≡◌, ◌∙◌, ap, sym, refl}
use Prim.Native.Nat.{ℕ, suc, ◌+◌, ◌*◌, ◌-◌, ◌≤◌, ◌<◌}
use native.Mathlib.Omega.{arith}
use native.Mathlib.Decide.{dec_lt}
use lib.IntN.{ℤ, pos}
use borrow.Author.Tests.{lt-ltb, le-ltb}
use Rattle.arithmetic.specs.Fraction.{U}
use Rattle.basis.specs.Basis.{Basis}
use Rattle.outcome.specs.declared.Refusal.{Refusal}
use Rattle.outcome.specs.Outcome.{value, refused, sum_of}
use Rattle.outcome.proofs.Outcome.{sum-none, sum-next}
use Rattle.survivorship.specs.declared.Kind.{Kind}
use Rattle.survivorship.specs.Survivorship.{survivors_of}
use Rattle.survivorship.proofs.Survivors.{survivors-refused}
use Rattle.valuation.specs.Valuation.{discount_after, payment, payment_after, expectation_of, annuity_of}
use Rattle.valuation.proofs.Lives.{Living, living-first, lived-refused, lived-last}
use Rattle.valuation.proofs.Payments.{payment-value, paid-refused, refused-before, paid-last}
use Rattle.swept_points.specs.Inner.DeferredPayment.{deferred_payment}

-- ---- the payment of a year
pub payment-not-yet : (v : ℤ) (from j : ℕ) (s : ℤ) → j < from → pos 0 ≡ deferred_payment v from j s
unfolding deferred_payment
payment-not-yet v from j s l = rw (lt-ltb j from l) refl

pub payment-made : (v : ℤ) (from j : ℕ) (s : ℤ) → from ≤ j → payment v s ≡ deferred_payment v from j s
unfolding deferred_payment
payment-made v from j s l = rw (le-ltb j from l) refl

-- ---- all years
module _ (b : Basis) (kind : Kind) (age from year : ℕ) where
  -- the first n payments come to a total
  abbrev Made : ℕ → ℕ → Type 0
  Made n total = sum_of (λ k. payment_after b kind age (from + k) year) n ≡ value (pos total)

  -- with the payment after j years
  made-next : (j total s p : ℕ) → Made (j - from) total → survivors_of b kind age j year ≡ value (pos s)
      → pos p ≡ deferred_payment (discount_after b j) from j (pos s) → Made (suc j - from) (total + p)
  made-next j total s p m h d = by (dec_lt j from)
    where
      by : Dec (j < from) → Made (suc j - from) (total + p)
      by (yes l) =
          let e : suc j - from ≡ j - from = omega arith in
          let z : pos p ≡ pos 0 = d ∙ sym (payment-not-yet (discount_after b j) from j (pos s) l) in
          let q : p ≡ 0 = cc in
          let f : total + p ≡ total = omega arith in
          rw (e, f) m
      by (no l) =
          let e : suc j - from ≡ suc (j - from) = omega arith in
          let f : from + (j - from) ≡ j = omega arith in
          let paid = payment-value b kind age from year j (pos s) (discount_after b j) h refl in
          let last = d ∙ sym (payment-made (discount_after b j) from j (pos s) (omega arith)) in
          rw e
          (sum-next (λ k. payment_after b kind age (from + k) year) (j - from) (pos total) (pos p) m
          (ap (λ j. payment_after b kind age j year) f ∙ paid ∙ ap value (sym last)))

-- the survivors after j years, their sum, and the payments so far
pub record SoFar (b : Basis) (kind : Kind) (age from year j s lives payments : ℕ) : Type 0 where
  pub living : Living b kind age year j s lives
  pub sum : payments ≤ 4 * U * (j + 1)
  pub made : Made b kind age from year (suc j - from) payments

module _ {b : Basis} {kind : Kind} {age from year : ℕ} where
  pub so-far-first : {p : ℕ} → (pos p ≡ deferred_payment (discount_after b 0) from 0 (pos U)) × (p ≤ 4 * U) → SoFar b kind age from year 0 U 0 p
  so-far-first {p} d =
      let living = living-first b kind age year in
      let z : 0 - from ≡ 0 = omega arith in
      let e : 0 + p ≡ p = omega arith in
      record {
        living = living;
        sum = omega (arith, d.1);
        made = rw e at (made-next b kind age from year 0 0 U p (rw z (sum-none _)) living.survivors d.0);
      }

  pub so-far-next : {j s lives payments x p : ℕ} → SoFar b kind age from year j s lives payments → Living b kind age year (j + 1) x (lives + x)
      → (pos p ≡ deferred_payment (discount_after b (j + 1)) from (j + 1) (pos x)) × (p ≤ 4 * U) → SoFar b kind age from year (j + 1) x (lives + x) (payments + p)
  so-far-next {j} {payments = payments} {x} {p} i living d =
      let f : suc j ≡ j + 1 = omega arith in
      record {
        living = living;
        sum = omega (arith, i.sum, d.1);
        made = made-next b kind age from year (j + 1) payments x p (rw f at i.made) living.survivors d.0;
      }

  -- a rate that is refused refuses both sums
  module _ {j s lives payments : ℕ} {r : Refusal} (i : SoFar b kind age from year j s lives payments) (l : j < 150 - age)
      (after : survivors_of b kind age (suc j) year ≡ refused r) where
    pub expectation-refused : refused r ≡ expectation_of b kind age 0 year
    expectation-refused = lived-refused b kind age 0 year (omega arith) (omega arith) i.living (omega arith) after

    pub annuity-refused : from ≤ 150 - age → refused r ≡ annuity_of b kind age from year
    annuity-refused m = by (dec_lt j from)
      where
        by : Dec (j < from) → refused r ≡ annuity_of b kind age from year
        by (yes q) = refused-before b kind age from year r (survivors-refused b kind age (suc j) from year r (omega arith) after)
        by (no q) =
            let f : suc j - from ≡ suc (j - from) = omega arith in
            paid-refused b kind age from year j (pos payments) r (omega arith) l (rw f at i.made) after

  -- at age 150 both sums are whole
  module _ {j s lives payments : ℕ} (i : SoFar b kind age from year j s lives payments) (e : j ≡ 150 - age) where
    pub expectation-last : value (pos (500_000_000 + lives)) ≡ expectation_of b kind age 0 year
    expectation-last = lived-last b kind age 0 year (omega arith) (omega arith) i.living (omega arith)

    pub annuity-last : from ≤ 150 - age → value (pos payments) ≡ annuity_of b kind age from year
    annuity-last m =
        let f : suc j - from ≡ suc (j - from) = omega arith in
        paid-last b kind age from year j (pos payments) e (rw f at i.made)

-- ---- the expectation after a deferment is that from the later age in the later year
pub deferred : (b : Basis) (kind : Kind) (age from year : ℕ) → expectation_of b kind (age + from) 0 (year + from) ≡ expectation_of b kind age from year
unfolding expectation_of
deferred b kind age from year =
    let a : age + from + 0 ≡ age + from = omega arith in
    let y : year + from + 0 ≡ year + from = omega arith in
    let n : 150 - (age + from) - 0 ≡ 150 - age - from = omega arith in
    rw (a, y, n) refl
