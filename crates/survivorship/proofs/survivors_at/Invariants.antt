-- After j turns of the loop the survivors are those of the definition after j years; a refusal stands in every later year.
use mathlib.Core.Path.{◌≡◌}
use lib.IntN.{pos}
use Rattle.history.specs.History.{basis_with}
use Rattle.outcome.specs.Outcome.{value}
use Rattle.survivorship.specs.Survivorship.{survivors_of}
use Rattle.survivorship.proofs.survivors_at.Given as goal

abbrev pub invariant-loop-j : goal.invariant-loop-j
invariant-loop-j l = survivors_of (basis_with l.b.run.now l.b.history.now) l.kind l.age l.j l.year ≡ value (pos l.s)
