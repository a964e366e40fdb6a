-- After j turns of the loop the survivors and both sums are those of `SoFar`.
use Rattle.history.specs.History.{basis_with}
use Rattle.swept_points.proofs.SoFar.{SoFar}
use Rattle.swept_points.proofs.life_values.life_values_from.Given as goal

abbrev pub invariant-loop-j : goal.invariant-loop-j
invariant-loop-j l = SoFar (basis_with l.t.basis.run.now l.t.basis.history.now) l.kind l.age l.deferment l.year l.j l.s l.lives l.annuity
