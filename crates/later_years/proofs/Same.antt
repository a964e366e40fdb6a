-- Steps and sums whose parts are the same are the same, and a refusal was given by one of the steps. Assumes nothing.
use mathlib.Core.Path.{◌≡◌, ◌∙◌, ap, refl}
use Prim.Native.Nat.{ℕ, zero, suc, ◌<◌}
use native.Mathlib.Omega.{arith}
use lib.IntN.{ℤ, pos, ◌+ℤ◌}
use Rattle.outcome.specs.declared.Refusal.{Refusal}
use Rattle.outcome.specs.Outcome.{Outcome, value, refused, and_then, steps, add_to, sum_of}

then_same : {A : Type 0} (o : Outcome A) (f g : A → Outcome A) → ((a : A) → f a ≡ g a) → and_then o f ≡ and_then o g
then_same (value a) f g h = h a
then_same (refused r) f g h = refl

pub steps-same : {A : Type 0} (step other : ℕ → A → Outcome A) (start : A) (n : ℕ) → ((k : ℕ) (a : A) → k < n → step k a ≡ other k a) →
    steps step start n ≡ steps other start n
unfolding steps
steps-same step other start zero h = refl
steps-same step other start (suc n) h =
    then_same (steps step start n) (step n) (other n) (λ a. h n a (omega arith))
    ∙ ap (λ o. and_then o (other n)) (steps-same step other start n (λ k a l. h k a (omega arith)))

pub sum_same : (term other : ℕ → Outcome ℤ) (n : ℕ) → ((k : ℕ) → k < n → term k ≡ other k) → sum_of term n ≡ sum_of other n
unfolding sum_of
sum_same term other n h = steps-same (add_to term) (add_to other) (pos 0) n (λ k a l. ap (λ o. and_then o (λ t. value (a +ℤ t))) (h k l))

-- the step that refused, and what it had
pub refused-at : {A : Type 0} (step : ℕ → A → Outcome A) (start : A) (n : ℕ) (r : Refusal) → steps step start n ≡ refused r →
    (k : ℕ) × (a : A) × (k < n) × (step k a ≡ refused r)
unfolding steps
refused-at step start zero r h = let z : ◌≡◌ {A = ℕ} 0 1 = cc in absurd (omega arith)
refused-at {A} step start (suc n) r h = by (steps step start n) refl h (refused-at step start n)
  where
    by : (o : Outcome A) → steps step start n ≡ o → and_then o (step n) ≡ refused r →
        ((q : Refusal) → steps step start n ≡ refused q → (k : ℕ) × (a : A) × (k < n) × (step k a ≡ refused q)) →
        (k : ℕ) × (a : A) × (k < suc n) × (step k a ≡ refused r)
    by (value a) e k earlier = (n, a, omega arith, k)
    by (refused q) e k earlier = let w = earlier r (e ∙ k) in (w.0, w.1, omega (arith, w.2), w.3)
