-- After j turns of the loop survivors, discount and total are those of `Paying`; the payments to 150 − age are the annuity.
use Rattle.history.specs.History.{basis_with}
use Rattle.valuation.proofs.Payments.{Paying}
use Rattle.valuation.proofs.annuity.annuity_from.Given as goal

abbrev pub invariant-loop-j : goal.invariant-loop-j
invariant-loop-j l =
    Paying (basis_with l.b.run.now l.b.history.now) l.kind l.age l.deferment l.year l.j l.s l.v l.total
