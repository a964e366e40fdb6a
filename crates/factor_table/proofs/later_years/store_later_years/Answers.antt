-- After m turns the first m of these years are stored, and the state is that of the next one.
use native.Mathlib.Omega.{arith}
use borrow.Author.Rules.{rules}
use Rattle.factor_table.proofs.LaterPlaces.{ends-in-time}
use Rattle.factor_table.proofs.LaterSweeping.{later_more}
use Rattle.factor_table.proofs.later_years.store_later_years.Goals as goal

pub store_state-requires : goal.store_state-requires
store_state-requires c =
    let i = c.loop-m.invariant in
    (search rules, omega arith, omega (arith, i.1.place, i.0, ends-in-time c.loop-m.m (omega arith)), omega (arith, i.1.place, ends-in-time c.loop-m.m (omega arith)))

pub loop-m-preserved : goal.loop-m-preserved
loop-m-preserved c = (
  search rules,
  later_more c.loop-m.invariant.1 c.args.b.workable.basis.limits.base_high (omega arith) c.store_state.ensures.stands_at c.store_state.ensures.kept_before (search rules)
      c.step.ensures.encodes c.step-in-loop-m.ensures.encodes,
)
