-- The definitions of the improvement case by case: actual and projected, before and after F, within and beyond ±500,000,000. Assumes
-- nothing.
use mathlib.Core.Path.{◌≡◌, refl}
use mathlib.Core.Bool.{Bool, true, false, cond, ◌&&◌}
use mathlib.Core.List.{List}
use Prim.Native.Nat.{ℕ, ◌+◌, ◌≤◌, ◌<◌}
use native.Mathlib.Decide.{dec_lt}
use native.Mathlib.Omega.{arith}
use lib.Dec.{ltb}
use lib.IntN.{ℤ, nat_abs}
use borrow.Author.Tests.{lt-ltb, le-ltb, leb-true, le-leb, lt-leb}
use Rattle.basis.specs.Basis.{Basis, basis_of}
use Rattle.history.specs.History.{actual_of, basis_with}
use Rattle.history.proofs.Acceptance.{accepted-workable}
use Rattle.outcome.specs.Outcome.{value, refused, refusal}
use Rattle.improvement.specs.Improvement.{addition_of, components_of, projected_of, is_actual}
use Rattle.improvement.specs.Improvement.{improvement_of, first_year, improvement_limit, usable, improvement_needed}
use Rattle.improvement.specs.Answered.{ActualAnswered}

-- ---- the addition and the improvement
pub addition-after : (b : Basis) (year : ℕ) → b.foundation < year → addition_of b year ≡ b.addition
unfolding addition_of
addition-after b year h = rw (lt-ltb b.foundation year h)

-- ---- the first year that has an improvement
-- whatever the history
pub first_with : (run history : List ℕ) → first_year (basis_of run) ≡ first_year (basis_with run history)
unfolding first_year
first_with run history = refl

pub first-before : (b : Basis) → b.base < b.foundation → first_year b ≡ b.base + 1
unfolding first_year
first-before b h = rw (lt-ltb b.base b.foundation h)

pub first-from : (b : Basis) → b.foundation ≤ b.base → first_year b ≡ b.foundation
unfolding first_year
first-from b h = rw (le-ltb b.base b.foundation h)

-- what holds of it in either case holds of it
first-case : (b : Basis) (P : ℕ → Type 0) → (b.base < b.foundation → P (b.base + 1)) → (b.foundation ≤ b.base → P b.foundation) → P (first_year b)
first-case b P h k = by (dec_lt b.base b.foundation)
  where
    by : Dec (b.base < b.foundation) → P (first_year b)
    by (yes l) = rw (first-before b l) (h l)
    by (no l) = rw (first-from b (omega arith)) (k (omega arith))

-- no later than B + 1
pub first-early : (b : Basis) → first_year b ≤ b.base + 1
first-early b = first-case b (λ n. n ≤ b.base + 1) (λ l. omega arith) (λ l. omega arith)

-- no earlier than 1992 where neither F nor B is
pub first-late : (b : Basis) → 1992 ≤ b.foundation → 1992 ≤ b.base → 1992 ≤ first_year b
first-late b h k = first-case b (λ n. 1992 ≤ n) (λ l. omega arith) (λ l. h)

-- ---- actual and projected years
with-false : (t : Bool) → (t && false) ≡ false
with-false true = refl
with-false false = refl

-- the projection does not look at the history
pub projected_with : (run history : List ℕ) (age year : ℕ) → projected_of (basis_with run history) age year ≡ projected_of (basis_of run) age year
unfolding projected_of components_of addition_of
projected_with run history age year = refl

module _ (b : Basis) (year : ℕ) where
  -- the years from B + 1 to F
  pub is-actual : b.base < year → year ≤ b.foundation → is_actual b year ≡ true
  is-actual l h = rw (lt-ltb b.base year l, le-leb year b.foundation h) refl

  pub after-foundation : b.foundation < year → is_actual b year ≡ false
  after-foundation h = rw (lt-leb year b.foundation h) (with-false (ltb b.base year))

-- ---- 9
pub usable-abs : (i : ℤ) → usable i ≡ true → nat_abs i ≤ improvement_limit
usable-abs i h = leb-true (nat_abs i) improvement_limit h

module _ (age year : ℕ) (i : ℤ) where
  pub needed-usable : usable i ≡ true → improvement_needed age year i ≡ value i
  unfolding improvement_needed
  needed-usable h = rw h refl

  -- one that is not refused is the improvement itself
  pub needed-value : (v : ℤ) → improvement_needed age year i ≡ value v → i ≡ v
  unfolding improvement_needed
  needed-value v h = by (usable i) h
    where
      by : (s : Bool) → cond s (value i) (refused (refusal 9 age year)) ≡ value v → i ≡ v
      by true k = cc
      by false k = let z : ◌≡◌ {A = ℕ} 0 1 = cc in absurd (omega arith)

-- one that is let pass is within its limits
pub needed_small : (age year : ℕ) (i v : ℤ) → value v ≡ improvement_needed age year i → nat_abs v ≤ 500_000_000
unfolding improvement_needed
needed_small age year i v h = by (usable i) refl h
  where
    by : (s : Bool) → usable i ≡ s → value v ≡ cond s (value i) (refused (refusal 9 age year)) → nat_abs v ≤ 500_000_000
    by true e k = let f : i ≡ v = cc in rw (← f) (usable-abs i e)
    by false e k = let z : ◌≡◌ {A = ℕ} 0 1 = cc in absurd (omega arith)

-- an actual improvement of an accepted history is never refused by 9
pub actual-answered : (run history : List ℕ) → ActualAnswered run history
unfolding improvement_of
actual-answered run history =
    record {
      answered = λ age year ok low high after upto.
          let b = basis_with run history in
          let e : is_actual b year ≡ true = is-actual b year after upto in
          let small = (accepted-workable run history ok).actual age year low high after upto in
          rw e (needed-usable age year (actual_of (basis_of run) history age year)
          (le-leb (nat_abs (actual_of (basis_of run) history age year)) improvement_limit (omega (arith, small))));
    }
