-- The check of the run and its history decides; an accepted one is what the six answers ask for.
use Rattle.outcome.proofs.Outcome.{found}
use Rattle.history.proofs.Acceptance.{accepted-workable}
use Rattle.small_set.specs.SmallSet.{small_set_of}
use Rattle.small_set.proofs.small_set.Goals as goal

pub invariant_of-six : goal.invariant_of-six
invariant_of-six c =
    let a = c.args in
    record { workable = accepted-workable a.run.now a.history.now (found c.check_run_and_history.ensures c.in-Ok.is) }

pub returns-in-Ok : goal.returns-in-Ok
unfolding small_set_of
returns-in-Ok c =
    simp (found c.check_run_and_history.ensures c.in-Ok.is, c.six-points.ensures)

pub returns-in-Err : goal.returns-in-Err
unfolding small_set_of
returns-in-Err c = simp (found c.check_run_and_history.ensures c.in-Err.is)
