-- The years before this one are stored, and the state is this one's.
use native.Mathlib.Omega.{arith}
use borrow.Author.Rules.{rules}
use Rattle.factor_table.proofs.Sweeping.{sweeping-none, sweeping-next}
use Rattle.factor_table.proofs.factors.store_years.Goals as goal

pub loop-year-init : goal.loop-year-init
loop-year-init c = sweeping-none _ (omega arith) (search rules) c.start-state.ensures

pub loop-year-preserved : goal.loop-year-preserved
loop-year-preserved c =
    sweeping-next c.loop-year.invariant (omega arith) (omega arith) c.store_state.ensures.stands_at c.store_state.ensures.kept_before (search rules) c.step.ensures.encodes
