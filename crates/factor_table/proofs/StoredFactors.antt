-- What is read of the table is the direct engine's factor: the theorem of the sweep at the year that is stored, and one step from it where that is
-- the year before. Assumes nothing.
use mathlib.Core.Path.{◌≡◌, ◌∙◌, ap, sym, subst, refl}
use mathlib.Core.Bool.{Bool, true, false}
use mathlib.Core.List.{List}
use Prim.Native.Nat.{ℕ, suc, ◌+◌, ◌*◌, ◌-◌, ◌%◌, ◌≤◌, ◌<◌}
use native.Mathlib.Decide.{dec_lt}
use native.Mathlib.Omega.{arith}
use lib.ListN.{get_or}
use borrow.Author.Tests.{lt-ltb, le-ltb, eqb-true, eqb-false}
use Rattle.basis.specs.Basis.{Basis, basis_of}
use Rattle.history.specs.Checked.{Cell}
use Rattle.history.specs.History.{basis_with}
use lib.IntN.{ℤ}
use Rattle.outcome.specs.declared.Refusal.{Refusal}
use Rattle.outcome.specs.Outcome.{value, refused, and_then}
use Rattle.improvement.specs.Improvement.{improvement_of}
use Rattle.projection.specs.Projection.{factor_from, factor_of}
use Rattle.sweep.specs.Sweep.{factor_on, sweep_after}
use Rattle.sweep.specs.Encoding.{decoded}
use Rattle.projection.proofs.Years.{goes_on}
use Rattle.sweep.proofs.Direct.{swept-until, sweep-direct}
use Rattle.factor_table.specs.FactorTable.{early_length, later_year, later_at, FactorTable}
use Rattle.factor_table.specs.Inner.Reading.{later_of, stored_year, is_stored, place_of, stored_factor}
use Rattle.factor_table.proofs.LaterPlaces.{ends-in-time}

-- ---- the year that is stored, and the place in it
pub early-place : (b : Basis) (age year : ℕ) → year < 2130 → place_of b age year ≡ 131 * (year - b.base) + (age - 20)
unfolding place_of
early-place b age year h = rw (lt-ltb year 2130 h) refl

pub later-place : (b : Basis) (age year : ℕ) → 2130 ≤ year → place_of b age year ≡ early_length + (later_at (later_of year) + (age - 20 - 2 * later_of year))
unfolding place_of
later-place b age year h = rw (le-ltb year 2130 h) refl

early-year : (year : ℕ) → year < 2130 → stored_year year ≡ year
unfolding stored_year
early-year year h = rw (lt-ltb year 2130 h) refl

later-year : (year : ℕ) → 2130 ≤ year → stored_year year ≡ later_year (later_of year)
unfolding stored_year
later-year year h = rw (le-ltb year 2130 h) refl

-- where the place of a year from 2130 on is: the age is one that is stored
pub later-within : (age year : ℕ) → age ≤ 150 → 2130 ≤ year → year ≤ 2110 + age →
    (later_of year < 66) × (2 * later_of year + 20 ≤ age) × (later_at (later_of year) + (age - 20 - 2 * later_of year) < 4356)
later-within age year high late born =
    let few : later_of year < 66 = omega arith in
    let at : 2 * later_of year + 20 ≤ age = omega arith in
    (few, at, omega (arith, ends-in-time (later_of year) few))

-- ---- is the year itself stored?
pub year-itself : (year : ℕ) → is_stored year ≡ true → stored_year year ≡ year
year-itself year h = by (dec_lt year 2130)
  where
    by : Dec (year < 2130) → stored_year year ≡ year
    by (yes l) = early-year year l
    by (no l) =
        let even : year % 2 ≡ 0 = eqb-true (year % 2) 0 (rw (le-ltb year 2130 (omega arith)) at h) in
        later-year year (omega arith) ∙ omega arith

odd-one : (n : ℕ) → (n % 2 ≡ 0 → ⊥) → n % 2 ≡ 1
odd-one n h = by (dec_lt (n % 2) 1)
  where
    by : Dec (n % 2 < 1) → n % 2 ≡ 1
    by (yes l) = absurd (h (omega arith))
    by (no l) = omega arith

pub year-before : (year : ℕ) → is_stored year ≡ false → (2130 < year) × (suc (stored_year year) ≡ year)
year-before year h = by (dec_lt year 2130)
  where
    by : Dec (year < 2130) → (2130 < year) × (suc (stored_year year) ≡ year)
    by (yes l) = let z = rw (lt-ltb year 2130 l) at h in let w : ◌≡◌ {A = ℕ} 0 1 = cc in absurd (omega arith)
    by (no l) =
        let odd = odd-one year (eqb-false (year % 2) 0 (rw (le-ltb year 2130 (omega arith)) at h)) in
        let e = later-year year (omega arith) in
        let late : 2130 < year = omega arith in
        (late, omega (arith, e))

-- ---- what stands there is the direct engine's factor of the year that is stored
module _ (run history numbers : List ℕ) (age year : ℕ) (cell : Cell run history age year) (table : FactorTable (basis_with run history) numbers) where
  abbrev b : Basis
  b = basis_with run history

  -- the sweep's factor of a year that has one
  swept : (k t : ℕ) → b.base + k ≡ t → t ≤ 2110 + age → sweep_after b k age ≡ factor_of b age t
  swept k t e h =
      let low = cell.age_low in
      let base = cell.usable.basis.limits.base_high in
      sweep-direct b age (omega arith) k ∙ ap (factor_of b age) (swept-until age (b.base + k) (omega arith) ∙ e)

  pub stored-factor : stored_factor (basis_of run) numbers age year ≡ factor_of b age (stored_year year)
  stored-factor = by (dec_lt year 2130)
    where
      by : Dec (year < 2130) → stored_factor (basis_of run) numbers age year ≡ factor_of b age (stored_year year)
      by (yes l) =
          let k = year - b.base in
          let a : 20 + (age - 20) ≡ age = omega (arith, cell.age_low) in
          let y : b.base + k ≡ year = omega (arith, cell.year_low) in
          let stored = table.years k (age - 20) (omega (arith, cell.year_low)) (omega (arith, cell.age_high)) in
          rw (early-place (basis_of run) age year l, early-year year l)
          (subst (λ (x : ℕ). decoded x (get_or numbers (131 * k + (age - 20)) 0) ≡ sweep_after b k x) a stored ∙ swept k year y cell.birth_high)
      by (no l) =
          let m = later_of year in
          let here = later-within age year cell.age_high (omega arith) cell.birth_high in
          let i = age - 20 - 2 * m in
          let k = later_year m - b.base in
          let a : 20 + (2 * m + i) ≡ age = omega (arith, here.1) in
          let p : early_length + later_at m + i ≡ early_length + (later_at m + i) = omega arith in
          let y : b.base + k ≡ later_year m = omega (arith, cell.usable.basis.limits.base_high) in
          let stored = table.later m i here.0 (omega (arith, here.1, cell.age_high)) in
          rw (later-place (basis_of run) age year (omega arith), later-year year (omega arith), ← p)
          (subst (λ (x : ℕ). decoded x (get_or numbers (early_length + later_at m + i) 0) ≡ sweep_after b k x) a stored
          ∙ swept k (later_year m) y (omega (arith, here.1)))

  -- the year itself
  pub factor-itself : is_stored year ≡ true → stored_factor (basis_of run) numbers age year ≡ factor_of b age year
  factor-itself h = stored-factor ∙ ap (factor_of b age) (year-itself year h)

  -- the year before, and one step
  one-step : is_stored year ≡ false → and_then (factor_of b age (stored_year year)) (factor_on b age (stored_year year)) ≡ factor_of b age year
  one-step h =
      let z = year-before year h in
      let k = stored_year year - b.base in
      let base = cell.usable.basis.limits.base_high in
      let y : b.base + k ≡ stored_year year = omega (arith, z) in
      let w : b.base + suc k ≡ year = omega (arith, z) in
      sym (rw (y, w) at (goes_on b age k))

  -- from a factor
  pub factor-between : is_stored year ≡ false → (f : ℤ) → stored_factor (basis_of run) numbers age year ≡ value f →
      factor_from age year (improvement_of b age year) f ≡ factor_of b age year
  factor-between h f e =
      let z = year-before year h in
      let next : stored_year year + 1 ≡ year = omega (arith, z) in
      let told : factor_of b age (stored_year year) ≡ value f = sym stored-factor ∙ e in
      rw next at (sym (ap (λ o. and_then o (factor_on b age (stored_year year))) told) ∙ one-step h)

  -- a refusal stands, whether it is the year's or the year's before
  pub factor-refused : (r : Refusal) → stored_factor (basis_of run) numbers age year ≡ refused r → refused r ≡ factor_of b age year
  factor-refused r e = by (is_stored year) refl
    where
      by : (t : Bool) → is_stored year ≡ t → refused r ≡ factor_of b age year
      by true h = sym e ∙ factor-itself h
      by false h =
          let told : factor_of b age (stored_year year) ≡ refused r = sym stored-factor ∙ e in
          sym (ap (λ o. and_then o (factor_on b age (stored_year year))) told) ∙ one-step h
