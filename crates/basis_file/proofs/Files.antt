-- The lengths of a file and of its run, whose form is the same, and the way through a file's check. Assumes nothing.
use mathlib.Core.Path.{◌≡◌, refl, sym, ap, ◌∙◌}
use mathlib.Core.List.{List}
use Prim.Native.Nat.{ℕ, zero, suc, ◌+◌, ◌*◌}
use native.Mathlib.Omega.{arith}
use lib.ListN.{length, take, drop, length-take, length-drop, length-append}
use borrow.Author.Tests.{eqb-true, eq-eqb}
use Rattle.std.proofs.lemmas.Grind.{common_steps}
use Rattle.outcome.specs.Outcome.{passed}
use Rattle.layout.specs.Layout.{blocks_in, run_length, file_length, form_of_run, form_of_file}
use Rattle.layout.proofs.EachForm.{run-high, of-run, of-file}
use Rattle.run_check.specs.Run.{run_check}
use Rattle.outcome.proofs.Outcome.{unless-passed, both-passed}
use Rattle.run_check.proofs.Acceptance.{accepted}
use Rattle.lent.proofs.Lent.{enough}
use Rattle.block.specs.Blocks.{blocks_of}
use Rattle.block.proofs.Blocks.{block-length}
use Rattle.block.proofs.Joined.{parts-length}
use Rattle.basis_file.specs.File.{run_in, file_of, file_blocks_check, outer_check, file_check}

-- ---- lengths
blocks-length : (n place : ℕ) (run : List ℕ) → length run ≡ 506 * n → length (blocks_of place n run) ≡ 512 * n
unfolding blocks_of
blocks-length zero place run h = refl
blocks-length (suc n) place run h =
    let p : length (take 506 run) ≡ 506 = simp length-take (omega arith) in
    let r = blocks-length n (place + 1) (drop 506 run) (simp length-drop (omega arith)) in
    simp (length-append, block-length place (take 506 run) p, r) (omega arith)

module _ (run : List ℕ) (h : length run ≡ run_length (form_of_run (length run))) where
  pub file-length : length (file_of run) ≡ file_length (form_of_run (length run))
  unfolding file_of
  file-length = blocks-length (blocks_in (form_of_run (length run))) 0 run h

  pub file-form : form_of_file (length (file_of run)) ≡ form_of_run (length run)
  file-form = of-file (form_of_run (length run)) (length (file_of run)) file-length

  -- the file of a run has a length of its own
  pub file-size : length (file_of run) ≡ file_length (form_of_file (length (file_of run)))
  file-size = file-length ∙ ap file_length (sym file-form)

module _ (file : List ℕ) (h : length file ≡ file_length (form_of_file (length file))) where
  pub run-length : length (run_in file) ≡ run_length (form_of_file (length file))
  unfolding run_in
  run-length = parts-length (blocks_in (form_of_file (length file))) file h

  pub run-form : form_of_run (length (run_in file)) ≡ form_of_file (length file)
  run-form = of-run (form_of_file (length file)) (length (run_in file)) run-length

-- ---- the way through a file's check
module _ (file : List ℕ) where
  abbrev Sized : Type 0
  Sized = length file ≡ file_length (form_of_file (length file))

  pub right-size : Sized → outer_check file ≡ file_blocks_check file
  unfolding outer_check
  right-size h = simp (eq-eqb (length file) (file_length (form_of_file (length file))) h)

  pub sized : outer_check file ≡ passed → Sized
  unfolding outer_check
  sized h = eqb-true _ _ (unless-passed _ _ (both-passed _ _ h).0)

  pub outer-passed : outer_check file ≡ passed → Sized × (file_blocks_check file ≡ passed)
  unfolding outer_check
  outer-passed h = (sized h, (both-passed _ _ h).1)

  pub file-passed : file_check file ≡ passed → (outer_check file ≡ passed) × (run_check (run_in file) ≡ passed)
  unfolding file_check
  file-passed h = both-passed _ _ h

-- an accepted run has the length of its form
pub accepted-run : (run : List ℕ) → run_check run ≡ passed → length run ≡ run_length (form_of_run (length run))
accepted-run run h = (accepted run h).size

-- ---- what the two checks before it let through
pub ruleset let_in = (common_steps, run-high, enough, sized)

pub ruleset let_out = (run-high, enough, accepted-run)
