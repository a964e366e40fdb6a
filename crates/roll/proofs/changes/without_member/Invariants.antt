-- The areas so far are closed.
use Rattle.std.proofs.Common.{◌≡◌}
use Rattle.roll.specs.Kept.{closed_areas}
use Rattle.roll.proofs.changes.without_member.Given as goal

abbrev pub invariant-loop-from : goal.invariant-loop-from
invariant-loop-from l = l.roll ≡ closed_areas l.from-index l.i l.n l.initial.roll
