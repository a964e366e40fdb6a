-- How long an accepted data run is. Assumes nothing.
use mathlib.Core.List.{List}
use Prim.Native.Nat.{ℕ, ◌+◌, ◌*◌, ◌≤◌, ◌<◌}
use native.Mathlib.Nat.{mul-suc, mul-le-mul_left}
use native.Mathlib.Omega.{arith}
use lib.ListN.{length}
use Rattle.layout.specs.Layout.{mpb1, run_length, fields_end, form_of_run}
use Rattle.layout.proofs.EachForm.{run-low, fields-inside}
use Rattle.basis.specs.Basis.{Accepted}

-- an entry of a table of n ends inside it
pub entry-inside : (width place n : ℕ) → place < n → width * place + width ≤ width * n
entry-inside width place n h = rw (mul-suc width place) at (mul-le-mul_left width h)

module _ (run : List ℕ) (a : Accepted run) where
  pub long-enough : run_length mpb1 ≤ length run
  long-enough = omega (arith, a.size, run-low (form_of_run (length run)))

  pub fields_within : fields_end (form_of_run (length run)) ≤ length run
  fields_within = omega (arith, a.size, fields-inside (form_of_run (length run)))
