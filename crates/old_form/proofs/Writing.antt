-- Where the check of the old form passes, the run of MPB1 passes that of writing, so that its file is written. Assumes nothing.
use mathlib.Core.Path.{◌≡◌, sym, ap, ◌∙◌}
use mathlib.Core.List.{List}
use Prim.Native.Nat.{ℕ, ◌≤◌}
use lib.ListN.{length}
use Rattle.outcome.specs.Outcome.{passed}
use Rattle.outcome.proofs.Outcome.{first-passed}
use Rattle.layout.specs.Layout.{mpb1, form_of_run, file_length}
use Rattle.lent.specs.Lent.{count_check}
use Rattle.lent.proofs.Lent.{roomy, enough}
use Rattle.basis.specs.Basis.{Accepted}
use Rattle.run_check.specs.Run.{run_check}
use Rattle.run_check.proofs.Acceptance.{passes}
use Rattle.basis_file.specs.File.{write_check}
use Rattle.old_form.specs.OldForm.{in_form, old_form_check, write_old_check}
use Rattle.old_form.proofs.Laying.{laid-form}
use Rattle.old_form.proofs.SameBasis.{laid-accepted}
use Rattle.old_form.proofs.Checking.{old-form-passed}

pub run_accepted : (run : List ℕ) → old_form_check run ≡ passed → Accepted run
run_accepted run h = (old-form-passed run h).0

pub old_written : (run file old : List ℕ) → old ≡ in_form mpb1 run → old_form_check run ≡ passed → count_check (file_length mpb1) (length file) ≡ passed
    → write_check old file ≡ write_old_check run file
old_written run file old e h r =
    let p = old-form-passed run h in
    let room = enough (file_length mpb1) (length file) r in
    let k : file_length (form_of_run (length (in_form mpb1 run))) ≤ length file = rw (laid-form mpb1 run p.0) room in
    ap (λ (l : List ℕ). write_check l file) e
    ∙ roomy (file_length (form_of_run (length (in_form mpb1 run)))) file (run_check (in_form mpb1 run)) k
    ∙ passes (in_form mpb1 run) (laid-accepted mpb1 run p.0 p.1)
    ∙ sym (first-passed (count_check (file_length mpb1) (length file)) (old_form_check run) r ∙ h)

pub ruleset written_anew = (run_accepted, old_written)
