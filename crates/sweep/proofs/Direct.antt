-- The sweep is the direct engine: after k steps it has at each age the direct engine's factor of the year B + k, at the latest of the birth year
-- 2110, or that age's first refusal up to then; and so has a list of numbers that began as the start and went through k steps. Assumes nothing.
use mathlib.Core.Path.{◌≡◌, ◌∙◌, ap, sym, refl}
use mathlib.Core.List.{List}
use mathlib.Core.Bool.{cond}
use Prim.Native.Nat.{ℕ, zero, suc, ◌+◌, ◌-◌, ◌≤◌, ◌<◌}
use native.Mathlib.Omega.{arith}
use native.Mathlib.Decide.{dec_lt}
use borrow.Author.Tests.{lt-ltb, le-ltb}
use Rattle.outcome.specs.Outcome.{steps}
use Rattle.basis.specs.Basis.{Basis}
use Rattle.projection.specs.Projection.{factor_of}
use Rattle.projection.proofs.Years.{steps_of, goes_on}
use Rattle.sweep.specs.Sweep.{sweep_start, has_next_year, swept_year, advanced_factor, sweep_step, sweep_after}
use Rattle.sweep.specs.Encoding.{state_in, Encodes}
use Rattle.sweep.proofs.OneAge.{advanced-early, advanced-late}

-- ---- the year whose factor an age has
pub swept-until : (age year : ℕ) → year ≤ 2110 + age → swept_year age year ≡ year
unfolding swept_year
swept-until age year h = by (dec_lt year (2110 + age))
  where
    by : Dec (year < 2110 + age) → cond (has_next_year age year) year (2110 + age) ≡ year
    by (yes l) = rw (lt-ltb year (2110 + age) l) refl
    by (no l) = rw (le-ltb year (2110 + age) (omega arith)) (omega arith)

pub swept-after : (age year : ℕ) → 2110 + age ≤ year → swept_year age year ≡ 2110 + age
unfolding swept_year
swept-after age year h = rw (le-ltb year (2110 + age) h) refl

module _ (b : Basis) (age : ℕ) where
  pub sweep-direct : b.base ≤ 2110 + age → (k : ℕ) → sweep_after b k age ≡ factor_of b age (swept_year age (b.base + k))
  unfolding sweep_after steps
  sweep-direct early zero = rw (swept-until age (b.base + 0) (omega arith)) (sym (steps_of b age 0))
  sweep-direct early (suc k) = ap (advanced_factor b age (b.base + k)) (sweep-direct early k) ∙ by (dec_lt (b.base + k) (2110 + age))
    where
      by : Dec (b.base + k < 2110 + age) →
          advanced_factor b age (b.base + k) (factor_of b age (swept_year age (b.base + k))) ≡ factor_of b age (swept_year age (b.base + suc k))
      by (yes l) =
          rw (swept-until age (b.base + k) (omega arith), swept-until age (b.base + suc k) (omega arith))
          (advanced-early b age (b.base + k) _ (lt-ltb (b.base + k) (2110 + age) l) ∙ sym (goes_on b age k))
      by (no l) =
          rw (swept-after age (b.base + k) (omega arith), swept-after age (b.base + suc k) (omega arith))
          (advanced-late b age (b.base + k) _ (le-ltb (b.base + k) (2110 + age) (omega arith)))

-- ---- the same of the numbers that hold a state
module _ (b : Basis) where
  pub start-after : (numbers : List ℕ) → Encodes numbers sweep_start → Encodes numbers (sweep_after b 0)
  unfolding sweep_after
  start-after numbers h = h

  -- a step from what holds the state after k steps holds that after one more
  pub step_after : (numbers next : List ℕ) (k : ℕ) → Encodes numbers (sweep_after b k) → Encodes next (sweep_step b (b.base + k) (state_in numbers))
      → Encodes next (sweep_after b (suc k))
  unfolding sweep_after
  step_after numbers next k h g = record { size = g.size; each = λ i l. g.each i l ∙ ap (advanced_factor b (20 + i) (b.base + k)) (back i l) }
    where
      back : (i : ℕ) → i < 131 → state_in numbers (20 + i) ≡ sweep_after b k (20 + i)
      back i l = let e : 20 + i - 20 ≡ i = omega arith in rw e (h.each i l)
