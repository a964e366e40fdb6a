-- What the check of the old form lets through: an accepted run, each P of which is a whole per cent. Assumes nothing.
use mathlib.Core.Path.{◌≡◌}
use mathlib.Core.List.{List}
use Prim.Native.Nat.{ℕ, zero, suc, ◌+◌, ◌%◌, ◌<◌}
use native.Mathlib.Nat.{add-zero, not-suc-le-zero}
use native.Mathlib.Omega.{arith}
use lib.ListN.{length}
use mathlib.Core.Bool.{true}
use borrow.Author.Tests.{eqb-true}
use Rattle.outcome.specs.Outcome.{passed}
use Rattle.outcome.proofs.Outcome.{unless-passed, both-passed}
use Rattle.layout.specs.Layout.{mpb1, proportion_at, form_of_run, ages, birth_years, age_proportions_at, birth_year_proportions_at}
use Rattle.basis.specs.Basis.{Accepted}
use Rattle.run_check.specs.Run.{run_check}
use Rattle.run_check.proofs.Acceptance.{accepted}
use Rattle.old_form.specs.OldForm.{is_whole, whole_at, whole_from, whole_check, old_form_check}
use Rattle.old_form.proofs.Numbers.{whole-per-cents}
use Rattle.old_form.proofs.SameBasis.{Counts}

module _ (run : List ℕ) where
  -- the P at a place, and those behind it
  parted : (offset place n : ℕ) → whole_from run offset place (suc n) ≡ passed
      → (is_whole (proportion_at (form_of_run (length run)) run offset place) ≡ true) × (whole_from run offset (place + 1) n ≡ passed)
  unfolding whole_from
  parted offset place n h =
      let e = both-passed (whole_at run offset place) (whole_from run offset (place + 1) n) h in
      (unless-passed _ _ e.0, e.1)

  each-whole : (offset place n : ℕ) → whole_from run offset place n ≡ passed → (i : ℕ) → i < n
      → proportion_at (form_of_run (length run)) run offset (place + i) % 100 ≡ 0
  unfolding whole_from
  each-whole offset place zero h i l = absurd (not-suc-le-zero l)
  each-whole offset place (suc n) h zero l =
      rw add-zero (eqb-true (proportion_at (form_of_run (length run)) run offset place % 100) 0 (parted offset place n h).0)
  each-whole offset place (suc n) h (suc i) l =
      let e : place + suc i ≡ place + 1 + i = omega arith in
      rw e (each-whole offset (place + 1) n (parted offset place n h).1 i (omega arith))

  counted : whole_check run ≡ passed → Counts mpb1 run
  counted h =
      let e = both-passed (whole_from run age_proportions_at 0 ages) (whole_from run (birth_year_proportions_at (form_of_run (length run))) 0 birth_years) h in
      let first : (i : ℕ) → 0 + i ≡ i = λ i. omega arith in
      record {
        by_age = λ i l. whole-per-cents _ (rw (first i) at (each-whole age_proportions_at 0 ages e.0 i l));
        by_birth_year = λ i l. whole-per-cents _ (rw (first i) at (each-whole (birth_year_proportions_at (form_of_run (length run))) 0 birth_years e.1 i l));
      }

  pub old-form-passed : old_form_check run ≡ passed → Accepted run × Counts mpb1 run
  unfolding old_form_check
  old-form-passed h = let e = both-passed (run_check run) (whole_check run) h in (accepted run e.0, counted e.1)

-- what passes the run's own check is accepted
pub accepted_run : (run : List ℕ) → run_check run ≡ passed → Accepted run
accepted_run run h = accepted run h
