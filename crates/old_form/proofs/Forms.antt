-- The theorems of the forms. Assumes nothing.
use mathlib.Core.Path.{◌≡◌, refl}
use mathlib.Core.List.{List}
use Prim.Native.Nat.{ℕ, zero, suc, ◌+◌, ◌%◌}
use native.Mathlib.Omega.{arith}
use lib.ListN.{length}
use borrow.Author.Tests.{eq-eqb}
use Rattle.outcome.specs.Outcome.{Finding, passed, refused_by, first_of}
use Rattle.layout.specs.Layout.{mpb1, mpb2, form_of_run, proportion_at, ages, birth_years, age_proportions_at, birth_year_proportions_at}
use Rattle.run_check.specs.Run.{run_check}
use Rattle.run_check.proofs.Acceptance.{accepted, passes}
use Rattle.basis_file.proofs.RoundTrip.{round-trips}
use Rattle.old_form.specs.OldForm.{in_form, whole_from, old_form_check, Forms}
use Rattle.old_form.proofs.Numbers.{fine}
use Rattle.old_form.proofs.SameBasis.{Counts, same-basis, laid-accepted}
use Rattle.old_form.proofs.Checking.{old-form-passed}
use Rattle.old_form.proofs.Own.{own-form}

-- ---- MPB2 counts every P
finely : (run : List ℕ) → Counts mpb2 run
finely run = record { by_age = λ i l. fine _; by_birth_year = λ i l. fine _ }

-- ---- every P of MPB1 is a whole per cent
module _ (run : List ℕ) (e : form_of_run (length run) ≡ mpb1) where
  per-cents : (offset place n : ℕ) → whole_from run offset place n ≡ passed
  unfolding whole_from
  per-cents offset place zero = refl
  per-cents offset place (suc n) =
      let h : proportion_at (form_of_run (length run)) run offset place % 100 ≡ 0 = rw e (omega arith) in
      rw (eq-eqb _ 0 h, per-cents offset (place + 1) n) refl

  nothing-more : (c : Finding) → first_of c passed ≡ c
  nothing-more passed = refl
  nothing-more (refused_by r) = refl

  as-ever : old_form_check run ≡ run_check run
  unfolding old_form_check
  as-ever =
      rw (per-cents age_proportions_at 0 ages, per-cents (birth_year_proportions_at (form_of_run (length run))) 0 birth_years)
      (nothing-more (run_check run))

pub forms : Forms
forms =
    record {
      finer = λ run h.
          let a = accepted run h in
          (passes (in_form mpb2 run) (laid-accepted mpb2 run a (finely run)), same-basis mpb2 run a (finely run));
      older = λ run h.
          let p = old-form-passed run h in
          let ok = passes (in_form mpb1 run) (laid-accepted mpb1 run p.0 p.1) in
          let back = round-trips.same_basis (in_form mpb1 run) ok in
          (back.0, back.1, ok, same-basis mpb1 run p.0 p.1);
      own = λ run b h. own-form run (accepted run h) b;
      as_ever = as-ever;
    }
