-- No number but those of the papers' list: by the laws of what refuses by numbers of a list. Assumes nothing.
use mathlib.Core.Path.{refl}
use mathlib.Core.List.{List}
use Prim.Native.Nat.{ℕ, zero, suc, ◌+◌}
use lib.ListN.{length}
use Rattle.outcome.specs.Refusals.{numbers, is_listed, RefusesBy}
use Rattle.outcome.proofs.Refusals.{passed-by, unless-by, first_by}
use Rattle.layout.specs.Layout.{proportion_at, form_of_run, ages, birth_years, age_proportions_at, birth_year_proportions_at}
use Rattle.run_check.proofs.Numbered.{run-numbered}
use Rattle.old_form.specs.OldForm.{is_whole, whole_from, old_form_check}

module _ (run : List ℕ) where
  whole-numbered : (offset place n : ℕ) → RefusesBy numbers (whole_from run offset place n)
  unfolding whole_from numbers is_listed
  whole-numbered offset place zero = passed-by
  whole-numbered offset place (suc n) =
      first_by (unless-by (is_whole (proportion_at (form_of_run (length run)) run offset place)) _ refl) (whole-numbered offset (place + 1) n)

  pub old-numbered : RefusesBy numbers (old_form_check run)
  unfolding old_form_check
  old-numbered =
      first_by (run-numbered run)
      (first_by (whole-numbered age_proportions_at 0 ages) (whole-numbered (birth_year_proportions_at (form_of_run (length run))) 0 birth_years))
