-- The questions before this one are answered, and the other places are as they were.
use Rattle.std.proofs.Common.{◌≡◌, ◌++◌, map, take, drop}
use Rattle.history.specs.History.{basis_with}
use Rattle.model_points.specs.Point.{point_of}
use Rattle.small_set.proofs.six.Given as goal

abbrev pub invariant-loop-i : goal.invariant-loop-i
invariant-loop-i l =
    l.point-items ≡ map (point_of (basis_with l.b.run.now l.b.history.now)) (take l.i l.questions) ++ drop l.i l.initial.point-items
