-- What is left of a table gives the same answer as the whole table.
use mathlib.Core.Path.{◌≡◌}
use Prim.Native.Nat.{◌-◌}
use Rattle.old_form.specs.OldForm.{whole_from}
use Rattle.old_form.proofs.whole.check_table.Given as goal

abbrev pub invariant-loop-place : goal.invariant-loop-place
invariant-loop-place l = whole_from l.run l.offset l.place (l.n - l.place) ≡ whole_from l.run l.offset 0 l.n
