-- The numbers that are looked at already pass.
use mathlib.Core.Path.{◌≡◌}
use Rattle.outcome.specs.Outcome.{passed}
use Rattle.field_check.specs.Field.{entries_check}
use Rattle.field_check.proofs.check_field.Given as goal

abbrev pub invariant-loop-i : goal.invariant-loop-i
invariant-loop-i l = entries_check l.run l.f.number l.f.kind l.f.low l.f.high l.f.offset l.i ≡ passed
