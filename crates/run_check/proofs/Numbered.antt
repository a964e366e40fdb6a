-- No number but those of the papers' list: by the laws of what refuses by numbers of a list. Assumes nothing.
use mathlib.Core.Path.{refl}
use mathlib.Core.List.{List}
use Prim.Native.Nat.{ℕ}
use lib.Dec.{eqb}
use lib.ListN.{length}
use Rattle.outcome.specs.Refusals.{numbers, is_listed, RefusesBy}
use Rattle.outcome.proofs.Refusals.{refused-by, cond-by}
use Rattle.field_check.proofs.Numbered.{are_listed, fields-by}
use Rattle.layout.specs.Layout.{form_of_run, run_length}
use Rattle.run_check.specs.Run.{fields_of, run_check}

pub run-numbered : (run : List ℕ) → RefusesBy numbers (run_check run)
unfolding run_check fields_of numbers is_listed are_listed
run-numbered run = cond-by (eqb (length run) (run_length (form_of_run (length run)))) (fields-by numbers run (fields_of (form_of_run (length run))) refl) (refused-by _ refl)
