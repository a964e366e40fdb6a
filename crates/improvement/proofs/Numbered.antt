-- No number but 6 to 10: by the laws of what refuses by numbers of a list. Assumes nothing.
use mathlib.Core.Path.{refl}
use Prim.Native.Nat.{ℕ}
use lib.IntN.{ℤ}
use Rattle.outcome.specs.Refusals.{record_numbers, is_listed, RefusedBy}
use Rattle.outcome.proofs.Refusals.{value-by, work-by, work-cond-by}
use Rattle.improvement.specs.Improvement.{usable, improvement_needed}

pub needed-numbered : (age year : ℕ) (i : ℤ) → RefusedBy record_numbers (improvement_needed age year i)
unfolding improvement_needed record_numbers is_listed
needed-numbered age year i = work-cond-by (usable i) (value-by i) (work-by _ refl)
