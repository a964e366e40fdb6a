-- The years before this one are stored, and the state is this one's.
use Prim.Native.Nat.{◌-◌}
use Rattle.basis.specs.Basis.{basis_of}
use Rattle.history.specs.History.{basis_with}
use Rattle.factor_table.proofs.Sweeping.{Sweeping}
use Rattle.factor_table.proofs.factors.store_years.Given as goal

abbrev pub invariant-loop-year : goal.invariant-loop-year
invariant-loop-year l = Sweeping (basis_with l.b.run.now l.b.history.now) l.numbers l.state (l.year - (basis_of l.b.run.now).base)
