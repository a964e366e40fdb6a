-- After some turns as many discounts are stored, and v is the next one.
use Rattle.std.proofs.Common.{◌≡◌, ℕ, ◌<◌, get_or}
use lib.IntN.{pos}
use Rattle.basis.specs.Basis.{basis_of}
use Rattle.valuation.specs.Valuation.{discount_after}
use Rattle.factor_table.proofs.discounts.store_discounts.Given as goal

abbrev pub invariant-loop-n : goal.invariant-loop-n
invariant-loop-n l =
    record {
      stored : (j : ℕ) → j < l.n-index → pos (get_or l.n-items j 0) ≡ discount_after (basis_of l.run) j;
      next : discount_after (basis_of l.run) l.n-index ≡ pos l.v;
    }
