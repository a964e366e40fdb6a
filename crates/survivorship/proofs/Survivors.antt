-- Survivorship year by year: what its loops need, and that survivors are a natural number of at most U; from the laws of `steps`.
-- Assumes nothing.
use mathlib.Core.Path.{◌≡◌, ◌∙◌, ap, sym, refl}
use mathlib.Core.List.{List}
use Prim.Native.Nat.{ℕ, suc, ◌+◌, ◌*◌, ◌-◌, ◌/◌, ◌≤◌, ◌<◌}
use native.Mathlib.Omega.{arith}
use native.Mathlib.Nat.{mul-le-mul}
use lib.IntN.{ℤ, pos, ◌-ℤ◌, ◌*ℤ◌}
use Rattle.arithmetic.specs.Fraction.{U}
use Rattle.arithmetic.specs.Round.{round_div}
use Rattle.arithmetic.proofs.Difference.{ring, ⊖-eq}
use Rattle.arithmetic.proofs.Rounding.{round-abs-le}
use Rattle.basis.specs.Basis.{Basis}
use Rattle.history.specs.Checked.{Cell}
use Rattle.outcome.specs.Outcome.{Outcome, value, refused, and_then}
use Rattle.outcome.specs.declared.Refusal.{Refusal}
use Rattle.outcome.proofs.Outcome.{none, next, persists, came, along}
use Rattle.projection.specs.Projection.{rate_of}
use Rattle.projection.proofs.Years.{rate-small}
use Rattle.survivorship.specs.Survivorship.{year_on, survivors_next, survivors_after_year, survivors_step, survivors_of}
use Rattle.survivorship.specs.declared.Kind.{Kind}
use Rattle.survivorship.specs.declared.Kind.TheVariants.{Period, Cohort}

-- ---- the survivors after one year, in natural numbers
-- U − q
pub rest : (q : ℕ) → q ≤ U → pos U -ℤ pos q ≡ pos (U - q)
rest q h = simp ring (⊖-eq _ _ _ _ (omega arith))

pub next-is : (s q : ℕ) → q ≤ U → pos ((2 * (s * (U - q)) + U) / (2 * U)) ≡ survivors_next (pos s) (pos q)
next-is s q h = ap (λ (z : ℤ). round_div (pos s *ℤ z) U) (sym (rest q h))

next-at : {a q : ℤ} (s n : ℕ) → a ≡ pos s → q ≡ pos n → n ≤ U → survivors_next a q ≡ pos ((2 * (s * (U - n)) + U) / (2 * U))
next-at s n e f h = rw (e, f) (sym (next-is s n h))

-- a rounded fraction of at most U is at most U
pub rounded-small : (a b r : ℕ) → 0 < b → a ≤ U * b → r ≡ (2 * a + b) / (2 * b) → r ≤ U
rounded-small a b r h k e = rw e (round-abs-le (pos a) b U h k)

pub next_small : (s q r : ℕ) → s ≤ U → r ≡ (2 * (s * (U - q)) + U) / (2 * U) → r ≤ U
next_small s q r h e = rounded-small (s * (U - q)) U r (omega arith) (mul-le-mul {n₂ = U} {m₂ = U} h (omega arith)) e

-- ---- the same of an age and a year
module _ (b : Basis) (age year : ℕ) where
  -- from what the rate is, wherever that was worked out
  pub survivors-by-rate : {o : Outcome ℤ} (s : ℤ) → o ≡ rate_of b age year → and_then o (λ q. value (survivors_next s q)) ≡ survivors_after_year b age year s
  unfolding survivors_after_year
  survivors-by-rate s e = ap (λ o. and_then o (λ q. value (survivors_next s q))) e

  year-natural : (a g : ℤ) (s : ℕ) → a ≡ pos s → s ≤ U → survivors_after_year b age year a ≡ value g → (m : ℕ) × (g ≡ pos m) × (m ≤ U)
  unfolding survivors_after_year
  year-natural a g s e l h =
      let w = came (rate_of b age year) (λ q. value (survivors_next a q)) g h in
      let r = rate-small b age year w.0 w.1 in
      let f : g ≡ survivors_next a w.0 = cc in
      ((2 * (s * (U - r.0)) + U) / (2 * U), f ∙ next-at s r.0 e r.1 r.2, next_small s r.0 _ l refl)

-- the year of a rate is never before the enquiry's
pub year-late : (kind : Kind) (j year : ℕ) → year ≤ year_on kind j year
year-late Period j year = omega arith
year-late Cohort j year = omega arith

-- and by no more than the years that passed
pub year-early : (kind : Kind) (j year : ℕ) → year_on kind j year ≤ year + j
year-early Period j year = omega arith
year-early Cohort j year = omega arith

-- the cell of the rate j years on: its birth year is no later than that of the first
pub cell-on : {run history : List ℕ} {age start year : ℕ} (kind : Kind) (j : ℕ) → Cell run history age start → age + j ≤ 150 → year ≡ year_on kind j start →
    Cell run history (age + j) year
cell-on {start = start} kind j cell high e =
    record {
      usable = cell.usable;
      age_low = omega arith;
      age_high = high;
      year_low = omega (arith, year-late kind j start);
      birth_high = omega (arith, e, year-early kind j start, cell.birth_high);
    }

-- ---- survivorship: at first, one year more, after a refusal, and its size
module _ (b : Basis) (kind : Kind) (age : ℕ) where
  pub survivors-first : (year : ℕ) → survivors_of b kind age 0 year ≡ value (pos U)
  unfolding survivors_of
  survivors-first year = none (survivors_step b kind age year) (pos U)

  -- one year more, whatever it comes to
  pub survivors-on : (j year : ℕ) (s : ℤ) → survivors_of b kind age j year ≡ value s
      → survivors_of b kind age (suc j) year ≡ survivors_after_year b (age + j) (year_on kind j year) s
  unfolding survivors_of
  survivors-on j year s h = next (survivors_step b kind age year) (pos U) j s h

  -- what the year comes to is what there is after it
  pub survivors-answered : (j year : ℕ) (s : ℤ) {o : Outcome ℤ} {at : ℕ} → at ≡ year_on kind j year → survivors_of b kind age j year ≡ value s
      → o ≡ survivors_after_year b (age + j) at s → survivors_of b kind age (suc j) year ≡ o
  survivors-answered j year s e h g = survivors-on j year s h ∙ sym (g ∙ ap (λ (y : ℕ). survivors_after_year b (age + j) y s) e)

  pub survivors-refused : (j n year : ℕ) (r : Refusal) → j ≤ n → survivors_of b kind age j year ≡ refused r → survivors_of b kind age n year ≡ refused r
  unfolding survivors_of
  survivors-refused j n year r l h = persists (survivors_step b kind age year) (pos U) j n r l h

  pub survivors-natural : (n year : ℕ) (s : ℤ) → survivors_of b kind age n year ≡ value s → (m : ℕ) × (s ≡ pos m) × (m ≤ U)
  unfolding survivors_of
  survivors-natural n year s h =
      along (survivors_step b kind age year) (pos U) (λ j a. (m : ℕ) × (a ≡ pos m) × (m ≤ U)) n (U, refl, omega arith)
      (λ j a g l p q. year-natural b (age + j) (year_on kind j year) a g p.0 p.1 p.2 q) s h

  pub survivors-small : (n year s : ℕ) → survivors_of b kind age n year ≡ value (pos s) → s ≤ U
  survivors-small n year s h = let m = survivors-natural n year (pos s) h in let e : s ≡ m.0 = cc in omega (arith, m.2)
