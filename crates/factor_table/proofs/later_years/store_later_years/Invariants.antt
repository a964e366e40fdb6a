-- After m turns the first m of these years are stored, and the state is that of the next one.
use mathlib.Core.Path.{◌≡◌}
use lib.ListN.{length}
use Rattle.history.specs.History.{basis_with}
use Rattle.factor_table.specs.FactorTable.{table_length}
use Rattle.factor_table.proofs.LaterSweeping.{LaterSweeping}
use Rattle.factor_table.proofs.later_years.store_later_years.Given as goal

abbrev pub invariant-loop-m : goal.invariant-loop-m
invariant-loop-m l =
    (length l.numbers ≡ table_length) × LaterSweeping (basis_with l.b.run.now l.b.history.now) l.initial.numbers l.numbers l.state l.m l.at
