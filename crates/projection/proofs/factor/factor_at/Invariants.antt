-- After k years the factor so far is the definition's after k steps; a refusal stands in every later year.
use mathlib.Core.Path.{◌≡◌}
use Prim.Native.Nat.{◌≤◌}
use lib.IntN.{pos}
use Rattle.arithmetic.specs.Fraction.{U}
use Rattle.history.specs.History.{basis_with}
use Rattle.outcome.specs.Outcome.{value, steps}
use Rattle.projection.specs.Projection.{factor_step}
use Rattle.projection.proofs.factor.factor_at.Given as goal

abbrev pub invariant-loop-k : goal.invariant-loop-k
invariant-loop-k l =
    (l.factor ≤ 4_000_000_000) × (steps (factor_step (basis_with l.b.run.now l.b.history.now) l.age) (pos U) l.k ≡ value (pos l.factor))
