-- After j turns of the loop the survivors and the total are those of `Living`; the total of N years and the half are the expectation.
use Rattle.history.specs.History.{basis_with}
use Rattle.valuation.proofs.Lives.{Living}
use Rattle.valuation.proofs.expectation.expectation_at.Given as goal

abbrev pub invariant-loop-j : goal.invariant-loop-j
invariant-loop-j l = Living (basis_with l.b.run.now l.b.history.now) l.kind l.from l.start l.j l.s l.total
