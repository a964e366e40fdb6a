-- No number but 6 to 10: by the laws of what refuses by numbers of a list. Assumes nothing.
use mathlib.Core.Path.{refl}
use Prim.Native.Nat.{ℕ}
use lib.IntN.{ℤ, pos}
use lib.Signed.{le_z}
use Rattle.arithmetic.specs.Fraction.{U}
use Rattle.basis.specs.Basis.{Basis}
use Rattle.outcome.specs.Refusals.{record_numbers, is_listed, RefusedBy}
use Rattle.outcome.proofs.Refusals.{value-by, work-by, work-cond-by, then_by, steps-by}
use Rattle.improvement.proofs.Numbered.{needed-numbered}
use Rattle.projection.specs.Projection.{factor_next, factor_needed, factor_from, years_to, factor_of, rate_from, rate_of}

factor-needed-numbered : (age year : ℕ) (factor : ℤ) → RefusedBy record_numbers (factor_needed age year factor)
unfolding factor_needed record_numbers is_listed
factor-needed-numbered age year factor = work-cond-by (le_z factor (pos 4_000_000_000)) (value-by factor) (work-by _ refl)

year-numbered : (age year : ℕ) (i factor : ℤ) → RefusedBy record_numbers (factor_from age year i factor)
unfolding factor_from
year-numbered age year i factor = then_by (needed-numbered age year i) (λ i. factor-needed-numbered age year (factor_next factor i))

module _ (b : Basis) (age year : ℕ) where
  pub factor-numbered : RefusedBy record_numbers (factor_of b age year)
  unfolding factor_of
  factor-numbered = steps-by (pos U) (years_to b year) (λ k f. year-numbered _ _ _ f)

  pub rate-numbered : RefusedBy record_numbers (rate_of b age year)
  unfolding rate_of
  rate-numbered = then_by factor-numbered (λ f. value-by (rate_from b age f))
