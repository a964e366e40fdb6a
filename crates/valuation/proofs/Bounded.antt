-- An annuity is at most 131 payments of 4 × U, also with the rate of discount at its least. Assumes nothing.
use mathlib.Core.Path.{◌≡◌, ◌∙◌, refl}
use Prim.Native.Nat.{ℕ, suc, ◌+◌, ◌*◌, ◌-◌, ◌/◌, ◌≤◌, ◌<◌}
use native.Mathlib.Nat.{mul-le-mul}
use native.Mathlib.Omega.{arith}
use lib.IntN.{ℤ, pos, ◌+ℤ◌}
use Rattle.arithmetic.specs.Fraction.{U}
use Rattle.arithmetic.proofs.Rounding.{round-abs-le}
use Rattle.basis.specs.Basis.{Basis, Limited}
use Rattle.outcome.specs.Outcome.{Outcome, value, add_to, sum_of}
use Rattle.outcome.proofs.Outcome.{came, along}
use Rattle.survivorship.specs.declared.Kind.{Kind}
use Rattle.survivorship.specs.Survivorship.{survivors_of}
use Rattle.survivorship.proofs.Survivors.{survivors-natural}
use Rattle.valuation.specs.Valuation.{discount_after, payment, payment_after, annuity_of}
use Rattle.valuation.proofs.Discount.{discount-natural}

-- a natural number of at most this
abbrev UpTo : ℕ → ℤ → Type 0
UpTo most v = (n : ℕ) × (v ≡ pos n) × (n ≤ most)

-- ---- a sum of n terms
plus-small : (most k : ℕ) {a t c : ℤ} → UpTo (most * k) a → UpTo most t → c ≡ a +ℤ t → UpTo (most * suc k) c
plus-small most k p q e = (p.0 + q.0, e ∙ rw (p.1, q.1) refl, omega (arith, p.2, q.2))

sum-small : (term : ℕ → Outcome ℤ) (most n : ℕ) → ((k : ℕ) (t : ℤ) → k < n → term k ≡ value t → UpTo most t)
    → (s : ℤ) → sum_of term n ≡ value s → UpTo (most * n) s
unfolding sum_of
sum-small term most n each s h =
    along (add_to term) (pos 0) (λ k a. UpTo (most * k) a) n (0, refl, omega arith)
    (λ k a c l p q.
    let w = came (term k) (λ t. value (a +ℤ t)) c q in
    let e : c ≡ a +ℤ w.0 = cc in
    plus-small most k p (each k w.0 l w.1) e) s h

-- ---- a payment: a discount of at most 4 × U to at most U survivors
payment-small : {v s p : ℤ} → UpTo (4 * U) v → UpTo U s → p ≡ payment v s → UpTo (4 * U) p
payment-small v s e =
    let room : v.0 * s.0 ≤ 4 * U * U = mul-le-mul {n₂ = 4 * U} {m₂ = U} v.2 s.2 in
    ((2 * (v.0 * s.0) + U) / (2 * U), e ∙ rw (v.1, s.1) refl, round-abs-le (pos (v.0 * s.0)) U (4 * U) (omega arith) room)

module _ (b : Basis) (limits : Limited b) (kind : Kind) (age : ℕ) where
  paid-small : (j year : ℕ) (p : ℤ) → j ≤ 130 → payment_after b kind age j year ≡ value p → UpTo (4 * U) p
  unfolding payment_after
  paid-small j year p l h =
      let w = came (survivors_of b kind age j year) (λ s. value (payment (discount_after b j) s)) p h in
      let v = discount-natural b limits j l in
      let e : p ≡ payment (discount_after b j) w.0 = cc in
      payment-small (v.0, v.1, omega (arith, v.2)) (survivors-natural b kind age j year w.0 w.1) e

  -- the last payment is after 150 − age years, or after the deferment where that is more
  pub annuity-small : (deferment year : ℕ) (a : ℤ) → 20 ≤ age → deferment ≤ 130 → annuity_of b kind age deferment year ≡ value a
      → (n : ℕ) × (a ≡ pos n) × (n ≤ 524_000_000_000)
  unfolding annuity_of
  annuity-small deferment year a low near h =
      let n = suc (150 - age - deferment) in
      let t = sum-small (λ k. payment_after b kind age (deferment + k) year) (4 * U) n (λ k p l g. paid-small (deferment + k) year p (omega arith) g) a h in
      (t.0, t.1, omega (arith, t.2))
