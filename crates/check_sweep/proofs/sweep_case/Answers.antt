-- What the check has passed is accepted.
use Rattle.outcome.proofs.Outcome.{found}
use Rattle.history.proofs.Acceptance.{accepted-workable}
use Rattle.check_sweep.proofs.sweep_case.Goals as goal

pub invariant_of-sweep_years : goal.invariant_of-sweep_years
invariant_of-sweep_years g c = record { workable = accepted-workable c.args.run.now c.args.history.now (found c.check_run_and_history.ensures c.in-Ok.is) }
