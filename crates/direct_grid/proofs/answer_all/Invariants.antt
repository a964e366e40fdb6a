-- The records before this one are answered.
use Rattle.std.proofs.Common.{◌≡◌}
use Rattle.history.specs.History.{basis_with}
use Rattle.grid.specs.Grid.{answers}
use Rattle.direct_grid.proofs.answer_all.Given as goal

abbrev pub invariant-loop-p : goal.invariant-loop-p
invariant-loop-p l = l.p-items ≡ answers (basis_with l.run l.history) l.p-index l.initial.p-items
