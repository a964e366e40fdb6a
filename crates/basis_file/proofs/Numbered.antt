-- No number but those of the papers' list: by the laws of what refuses by numbers of a list. Assumes nothing.
use mathlib.Core.Path.{refl}
use mathlib.Core.List.{List}
use Prim.Native.Nat.{ℕ}
use lib.Dec.{eqb}
use lib.ListN.{length}
use Rattle.outcome.specs.Refusals.{numbers, is_listed, RefusesBy}
use Rattle.outcome.proofs.Refusals.{unless-by, first_by}
use Rattle.layout.specs.Layout.{blocks_in, form_of_file, file_length}
use Rattle.run_check.proofs.Numbered.{run-numbered}
use Rattle.block.proofs.Numbered.{blocks-numbered}
use Rattle.basis_file.specs.File.{run_in, outer_check, file_check}

outer-numbered : (file : List ℕ) → RefusesBy numbers (outer_check file)
unfolding outer_check numbers is_listed
outer-numbered file = first_by (unless-by (eqb (length file) (file_length (form_of_file (length file)))) _ refl) (blocks-numbered 0 (blocks_in (form_of_file (length file))) file)

pub file-numbered : (file : List ℕ) → RefusesBy numbers (file_check file)
unfolding file_check
file-numbered file = first_by (outer-numbered file) (run-numbered (run_in file))
