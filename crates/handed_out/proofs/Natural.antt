-- No value that is answered is below zero, so that its size is the value itself. Assumes nothing.
use mathlib.Core.Path.{◌≡◌, ◌∙◌, refl}
use Prim.Native.Nat.{ℕ, zero, suc, ◌+◌, ◌*◌, ◌-◌, ◌/◌}
use lib.IntN.{ℤ, pos, nat_abs, ◌+ℤ◌}
use Rattle.arithmetic.specs.Fraction.{U}
use Rattle.basis.specs.Basis.{Basis, accumulation_of}
use Rattle.outcome.specs.Outcome.{Outcome, value, add_to, sum_of}
use Rattle.outcome.proofs.Outcome.{came, along}
use Rattle.survivorship.specs.declared.Kind.{Kind}
use Rattle.survivorship.specs.Survivorship.{survivors_of}
use Rattle.survivorship.proofs.Survivors.{survivors-natural}
use Rattle.valuation.specs.Valuation.{curtate_of, expectation_of, discount_after, payment, payment_after, annuity_of}

abbrev pub Natural : ℤ → Type 0
Natural v = (m : ℕ) × (v ≡ pos m)

-- its size is the value
pub size_is : (v : ℤ) → Natural v → pos (nat_abs v) ≡ v
size_is v n = rw n.1 refl

-- ---- sums
plus-natural : {a b c : ℤ} → Natural a → Natural b → c ≡ a +ℤ b → Natural c
plus-natural p q e = (p.0 + q.0, e ∙ rw (p.1, q.1) refl)

sum-natural : (term : ℕ → Outcome ℤ) → ((k : ℕ) (t : ℤ) → term k ≡ value t → Natural t) → (n : ℕ) (s : ℤ) → sum_of term n ≡ value s → Natural s
unfolding sum_of
sum-natural term each n s h =
    along (add_to term) (pos 0) (λ k a. Natural a) n (0, refl)
    (λ k a c l p q.
    let w = came (term k) (λ t. value (a +ℤ t)) c q in
    let e : c ≡ a +ℤ w.0 = cc in
    plus-natural p (each k w.0 w.1) e) s h

module _ (b : Basis) (kind : Kind) where
  survived : (age n year : ℕ) (s : ℤ) → survivors_of b kind age n year ≡ value s → Natural s
  survived age n year s h = let m = survivors-natural b kind age n year s h in (m.0, m.1)

  pub expectation-natural : (age deferment year : ℕ) (e : ℤ) → expectation_of b kind age deferment year ≡ value e → Natural e
  unfolding expectation_of curtate_of
  expectation-natural age deferment year e h =
      let w = came (curtate_of b kind (age + deferment) (150 - age - deferment) (year + deferment)) (λ t. value (pos (U / 2) +ℤ t)) e h in
      let t = sum-natural _ (λ k s g. survived (age + deferment) (suc k) (year + deferment) s g) (150 - age - deferment) w.0 w.1 in
      let f : e ≡ pos (U / 2) +ℤ w.0 = cc in
      plus-natural (U / 2, refl) t f

-- ---- payments
discount-natural : (b : Basis) (j : ℕ) → Natural (discount_after b j)
unfolding discount_after
discount-natural b zero = (U, refl)
discount-natural b (suc j) =
    let p = discount-natural b j in
    let d = accumulation_of b in
    ((2 * (p.0 * U) + d) / (2 * d), rw p.1 refl)

payment-natural : {v s p : ℤ} → Natural v → Natural s → p ≡ payment v s → Natural p
payment-natural m n e = ((2 * (m.0 * n.0) + U) / (2 * U), e ∙ rw (m.1, n.1) refl)

module _ (b : Basis) (kind : Kind) (age : ℕ) where
  paid : (j year : ℕ) (p : ℤ) → payment_after b kind age j year ≡ value p → Natural p
  unfolding payment_after
  paid j year p h =
      let w = came (survivors_of b kind age j year) (λ s. value (payment (discount_after b j) s)) p h in
      let e : p ≡ payment (discount_after b j) w.0 = cc in
      payment-natural (discount-natural b j) (survived b kind age j year w.0 w.1) e

  pub annuity-natural : (deferment year : ℕ) (a : ℤ) → annuity_of b kind age deferment year ≡ value a → Natural a
  unfolding annuity_of
  annuity-natural deferment year a h = sum-natural _ (λ k p g. paid (deferment + k) year p g) (suc (150 - age - deferment)) a h
