-- After j turns of the loop the discount is that of the definition after j years.
use mathlib.Core.Path.{◌≡◌}
use lib.IntN.{pos}
use Rattle.basis.specs.Basis.{basis_of}
use Rattle.valuation.specs.Valuation.{discount_after}
use Rattle.valuation.proofs.annuity.discount_after.Given as goal

abbrev pub invariant-loop-j : goal.invariant-loop-j
invariant-loop-j l = discount_after (basis_of l.run) l._j ≡ pos l.v
