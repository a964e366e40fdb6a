-- The basis that a data run and its history stand for, where both have passed their checks.
use Rattle.basis.specs.Basis.{Basis}
use Rattle.history.specs.declared.LentBasis.{LentBasis}
use Rattle.history.specs.History.{basis_with}

abbrev pub held : LentBasis → Basis
held b = basis_with b.run.now b.history.now
