-- One age from a year to the next, case by case. Assumes nothing.
use mathlib.Core.Path.{◌≡◌, refl}
use mathlib.Core.Bool.{Bool, true, false, cond}
use Prim.Native.Nat.{ℕ}
use lib.IntN.{ℤ}
use Rattle.outcome.specs.declared.Refusal.{Refusal}
use Rattle.outcome.specs.Outcome.{Outcome, refused, and_then}
use Rattle.basis.specs.Basis.{Basis}
use Rattle.sweep.specs.Sweep.{factor_on, has_next_year, advanced_factor}

module _ (b : Basis) (age year : ℕ) (last : Outcome ℤ) where
  -- before the year of the birth year 2110 an age takes a step, and a factor goes on to the next year's
  pub advanced-early : has_next_year age year ≡ true → advanced_factor b age year last ≡ and_then last (factor_on b age year)
  unfolding advanced_factor
  advanced-early l = rw l refl

  -- a refusal stays
  pub advanced-refused : (r : Refusal) → last ≡ refused r → advanced_factor b age year last ≡ last
  unfolding advanced_factor
  advanced-refused r h = by (has_next_year age year)
    where
      by : (t : Bool) → cond t (and_then last (factor_on b age year)) last ≡ last
      by true = rw h refl
      by false = refl

  -- from then on all stands
  pub advanced-late : has_next_year age year ≡ false → advanced_factor b age year last ≡ last
  unfolding advanced_factor
  advanced-late l = rw l refl
