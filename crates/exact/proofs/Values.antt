-- Expectation 4d ≤ 2N(N + 1)(K + 1) and annuity 4d ≤ (N + 1)(N(2K + 3) + 2), four times that at a rate of discount below zero: the
-- distances of their terms, added. A term of the annuity is j halves from the discount, 2j(K + 1) from the survivors and one from
-- its rounding, or at most four times each. Assumes nothing.
use mathlib.Core.Path.{◌≡◌}
use Prim.Native.Nat.{ℕ, suc, ◌+◌, ◌*◌, ◌-◌, ◌/◌, ◌≤◌, ◌<◌}
use native.Mathlib.Omega.{arith}
use native.Mathlib.Nat.{mul-le-mul_right}
use lib.IntN.{ℤ, pos, ◌+ℤ◌}
use Rattle.arithmetic.specs.Fraction.{Fraction, Within, sumᶠ, U}
use Rattle.arithmetic.proofs.Distance.{within-whole, within_more, within-sum, within-product-times}
use Rattle.arithmetic.proofs.UnitRange.{unit-abs}
use Rattle.arithmetic.proofs.Sums.{sumℕ, total_first, total-next, sum-linear, sum-tail}
use Rattle.basis.specs.Basis.{Basis}
use Rattle.outcome.specs.Outcome.{Outcome, value, sum_of, add_to}
use Rattle.outcome.proofs.Outcome.{along, came}
use Rattle.projection.specs.Projection.{years_to}
use Rattle.survivorship.specs.Survivorship.{year_on, survivors_of}
use Rattle.valuation.specs.Valuation.{curtate_of, expectation_of, discount_after, payment, payment_after, annuity_of}
use Rattle.survivorship.specs.declared.Kind.{Kind}
use Rattle.survivorship.specs.declared.Kind.TheVariants.{Cohort}
use Rattle.exact.specs.Model.{exact_survivors, exact_expectation, exact_payment, exact_annuity}
use Rattle.exact.specs.Distance.{ImprovingOver, rate_distance, expectation_distance, annuity_distance, WithinQuarters}
use Rattle.exact.proofs.LimitedLife.{LimitedLife, later}
use Rattle.exact.proofs.Survivors.{survived}
use Rattle.exact.proofs.Discount.{Discounted}

-- halves are two quarters each
in-quarters : {v : ℤ} {q : Fraction} {m : ℕ} → Within v q m → WithinQuarters v q (2 * m)
in-quarters {q = q} h = record { proper = h.proper; near = omega (arith, h.near) }

pub quarters-more : {v : ℤ} {q : Fraction} {m n : ℕ} → WithinQuarters v q m → m ≤ n → WithinQuarters v q n
quarters-more {q = q} h k = record { proper = h.proper; near = omega (arith, h.near, mul-le-mul_right q.den k) }

-- a sum of outcomes is as far from the exact sum as its terms are together
total-within : (term : ℕ → Outcome ℤ) (exact : ℕ → Fraction) (m : ℕ → ℕ) (n : ℕ) →
    ((k : ℕ) (t : ℤ) → k < n → term k ≡ value t → Within t (exact k) (m k)) →
    (total : ℤ) → sum_of term n ≡ value total → Within total (sumᶠ exact n) (sumℕ m n)
unfolding sum_of
total-within term exact m n near total h =
    along (add_to term) (pos 0) (λ k a. Within a (sumᶠ exact k) (sumℕ m k)) n (total_first exact m)
    (λ k a g l c q.
    let w = came (term k) (λ t. value (a +ℤ t)) g q in
    let e : a +ℤ w.0 ≡ g = cc in
    rw (← e) (total-next exact m k c (near k w.0 l w.1)))
    total h

-- ---- the expectation; j years of survivorship are j(r + 1) halves
module _ (b : Basis) (kind : Kind) (age deferment year r : ℕ) (life : LimitedLife b age deferment year)
    (improving : ImprovingOver b kind (age + deferment) (150 - age - deferment) (year + deferment))
    (most : (j : ℕ) → j < 150 - age - deferment → rate_distance b (years_to b (year_on kind j (year + deferment))) ≤ r) where
  pub expectation-within : (a : ℤ) → expectation_of b kind age deferment year ≡ value a →
      WithinQuarters a (exact_expectation b kind age deferment year) (expectation_distance (150 - age - deferment) r)
  unfolding expectation_of curtate_of exact_expectation
  expectation-within a h =
      let n = 150 - age - deferment in
      let from = age + deferment in let start = year + deferment in
      let m : ℕ → ℕ = λ j. j * (r + 1) + 0 in
      let w = came (sum_of (λ k. survivors_of b kind from (suc k) start) n) (λ t. value (pos (U / 2) +ℤ t)) a h in
      let lives = total-within (λ k. survivors_of b kind from (suc k) start) (λ k. exact_survivors b kind from (suc k) start) (λ k. m (1 + k)) n
      (λ k t l q.
      within_more
      (survived b kind from start r (suc k) (later life Cohort deferment (suc k) (omega (arith, life.age_high)))
      (λ i less. improving i (omega arith)) (λ i less. most i (omega arith)) t q).near
      (omega arith))
      w.0 w.1 in
      let e : pos (U / 2) +ℤ w.0 ≡ a = cc in
      quarters-more (in-quarters {m = 0 + sumℕ (λ k. m (1 + k)) n} (rw (← e) (within-sum (within-whole (pos (U / 2))) lives)))
      (omega (arith, rw one_more at (sum-tail m 1 n), sum-linear (r + 1) 0 n))
    where
      one_more : 1 + (150 - age - deferment) ≡ suc (150 - age - deferment)
      one_more = omega arith

-- ---- the annuity, w times the distances
module _ (b : Basis) (kind : Kind) (age deferment year r : ℕ) (life : LimitedLife b age deferment year)
    (improving : ImprovingOver b kind age (150 - age) year) (most : (j : ℕ) → j < 150 - age → rate_distance b (years_to b (year_on kind j year)) ≤ r)
    (w : ℕ) (once : 1 ≤ w) (worth : (j : ℕ) → j ≤ 130 → Discounted b w j) where
  from_start : (j : ℕ) → j ≤ 150 - age → LimitedLife b age j year
  from_start j l = record { limits = life.limits; age_low = life.age_low; age_high = omega (arith, life.age_high); birth_high = life.birth_high }

  payment-within : (j : ℕ) (t : ℤ) → j ≤ 150 - age → payment_after b kind age j year ≡ value t → Within t (exact_payment b kind age j year) (j * (w * (r + 2)) + w)
  unfolding payment_after exact_payment
  payment-within j t l h =
      let c = came (survivors_of b kind age j year) (λ s. value (payment (discount_after b j) s)) t h in
      let s = survived b kind age year r j (from_start j l) (λ i less. improving i (omega arith)) (λ i less. most i (omega arith)) c.0 c.1 in
      let v = worth j (omega arith) in
      let e : payment (discount_after b j) c.0 ≡ t = cc in
      rw (← e) (within_more (within-product-times w U (omega arith) v.near s.near v.size (unit-abs s.unit)) (omega arith))

  pub annuity-within : (a : ℤ) → annuity_of b kind age deferment year ≡ value a →
      WithinQuarters a (exact_annuity b kind age deferment year) (w * annuity_distance (150 - age) r)
  unfolding annuity_of exact_annuity
  annuity-within a h =
      let n = 150 - age - deferment in
      let m : ℕ → ℕ = λ j. j * (w * (r + 2)) + w in
      let paid = total-within (λ k. payment_after b kind age (deferment + k) year) (λ k. exact_payment b kind age (deferment + k) year) (λ k. m (deferment + k)) (suc n)
      (λ k t l q. payment-within (deferment + k) t (omega arith) q) a h in
      let e : deferment + suc n ≡ suc (150 - age) = omega arith in
      quarters-more (in-quarters paid) (omega (arith, rw e at (sum-tail m deferment (suc n)), sum-linear (w * (r + 2)) w (150 - age)))
