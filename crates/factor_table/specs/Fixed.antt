-- That the factor table of a basis is one list of numbers: `FactorTable` leaves none of them free (01, "Reviewer's checklist": one possible state
-- of the output).
use Rattle.std.specs.Prelude.{◌≡◌, List, ℕ}
use Rattle.basis.specs.Basis.{Basis}
use Rattle.factor_table.specs.FactorTable.{FactorTable}

pub record FactorTableIsFixed : Type 0 where
  pub same : (b : Basis) (numbers others : List ℕ) → FactorTable b numbers → FactorTable b others → numbers ≡ others
