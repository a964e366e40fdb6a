-- The definition of a year's factor case by case: what a value and what a refusal says of it. Assumes nothing.
use mathlib.Core.Path.{◌≡◌, refl}
use mathlib.Core.Bool.{Bool, true, false, cond}
use Prim.Native.Nat.{ℕ, ◌≤◌, ◌<◌}
use native.Mathlib.Omega.{arith}
use lib.IntN.{ℤ, pos}
use lib.Signed.{le_z}
use Rattle.outcome.specs.declared.Refusal.{Refusal}
use Rattle.outcome.specs.Outcome.{value, refused, and_then, refusal}
use Rattle.improvement.specs.Improvement.{usable, improvement_needed}
use Rattle.projection.specs.Projection.{factor_needed, factor_next, factor_from}

module _ (age year : ℕ) (i f : ℤ) where
  -- a year that has a factor: its improvement was usable, and its factor is the next one and at most 4 × U
  pub year-value : (g : ℤ) → factor_from age year i f ≡ value g → (usable i ≡ true) × (g ≡ factor_next f i) × (le_z g (pos 4_000_000_000) ≡ true)
  unfolding factor_from improvement_needed factor_needed
  year-value g h = by (usable i) refl (le_z (factor_next f i) (pos 4_000_000_000)) refl h
    where
      by : (s : Bool) → usable i ≡ s → (t : Bool) → le_z (factor_next f i) (pos 4_000_000_000) ≡ t →
          and_then (cond s (value i) (refused (refusal 9 age year)))
          (λ j. cond (le_z (factor_next f j) (pos 4_000_000_000)) (value (factor_next f j)) (refused (refusal 10 age year))) ≡ value g →
          (usable i ≡ true) × (g ≡ factor_next f i) × (le_z g (pos 4_000_000_000) ≡ true)
      by true p true q k = let e : g ≡ factor_next f i = cc in (p, e, rw e q)
      by true p false q k = let z : ◌≡◌ {A = ℕ} 0 1 = cc in absurd (omega arith)
      by false p t q k = let z : ◌≡◌ {A = ℕ} 0 1 = cc in absurd (omega arith)

  -- a year that is refused: its number is 9 or 10, and its places are the age and the year
  pub year-refused : (r : Refusal) → factor_from age year i f ≡ refused r → (n : ℕ) × (r ≡ refusal n age year) × (0 < n) × (n ≤ 10)
  unfolding factor_from improvement_needed factor_needed
  year-refused r h = by (usable i) (le_z (factor_next f i) (pos 4_000_000_000)) refl h
    where
      by : (s t : Bool) → le_z (factor_next f i) (pos 4_000_000_000) ≡ t →
          and_then (cond s (value i) (refused (refusal 9 age year)))
          (λ j. cond (le_z (factor_next f j) (pos 4_000_000_000)) (value (factor_next f j)) (refused (refusal 10 age year))) ≡ refused r →
          (n : ℕ) × (r ≡ refusal n age year) × (0 < n) × (n ≤ 10)
      by true true q k = let z : ◌≡◌ {A = ℕ} 0 1 = cc in absurd (omega arith)
      by true false q k = let e : r ≡ refusal 10 age year = cc in (10, e, omega arith, omega arith)
      by false t q k = let e : r ≡ refusal 9 age year = cc in (9, e, omega arith, omega arith)
