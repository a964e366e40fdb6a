-- Each table ends inside the run, and what is handed back of it, by what the check says. Assumes nothing.
use mathlib.Core.Path.{◌≡◌, ap}
use mathlib.Core.List.{List, []}
use Prim.Native.Nat.{ℕ, ◌≤◌, ◌+◌, ◌-◌}
use native.Mathlib.Omega.{arith}
use lib.ListN.{length, take, drop}
use Rattle.outcome.specs.declared.Refusal.{Refusal}
use Rattle.outcome.specs.Outcome.{Finding, passed, refused_by}
use Rattle.layout.specs.Layout.{Form, run_length, form_of_run}
use Rattle.layout.proofs.EachForm.{fields-inside}
use Rattle.run_check.specs.Run.{run_check}
use Rattle.run_check.proofs.Acceptance.{accepted}
use Rattle.tables.specs.declared.Table.{Table}
use Rattle.tables.specs.declared.Table.TheVariants.{BaseRates, AgeInitialRates, AgeLongTermRates, AgePeriods, AgeProportions}
use Rattle.tables.specs.declared.Table.TheVariants.{BirthYearInitialRates, BirthYearLongTermRates, BirthYearPeriods, BirthYearProportions}
use Rattle.tables.specs.Tables.{Stretch, stretch_of, handed_back, bytes_of, table_start, table_of}

inside : (form : Form) (table : Table) → (stretch_of form table).0 + (stretch_of form table).1 ≤ run_length form
inside form BaseRates = omega (arith, fields-inside form)
inside form AgeInitialRates = omega (arith, fields-inside form)
inside form AgeLongTermRates = omega (arith, fields-inside form)
inside form AgePeriods = omega (arith, fields-inside form)
inside form AgeProportions = omega (arith, fields-inside form)
inside form BirthYearInitialRates = omega (arith, fields-inside form)
inside form BirthYearLongTermRates = omega (arith, fields-inside form)
inside form BirthYearPeriods = omega (arith, fields-inside form)
inside form BirthYearProportions = omega (arith, fields-inside form)

module _ (run : List ℕ) (table : Table) where
  abbrev own : Stretch
  own = stretch_of (form_of_run (length run)) table

  -- ---- a refused run
  pub none_of_refused : (r : Refusal) → run_check run ≡ refused_by r → table_of run table ≡ []
  unfolding table_of
  none_of_refused r h = ap (λ (c : Finding). bytes_of run (handed_back c own)) h

  pub start_of_refused : (r : Refusal) → run_check run ≡ refused_by r → table_start run table ≡ 0
  unfolding table_start
  start_of_refused r h = ap (λ (c : Finding). (handed_back c own).0) h

  -- ---- a run that passed
  pub own_inside : run_check run ≡ passed → own.0 + own.1 ≤ length run
  own_inside h = omega (arith, inside (form_of_run (length run)) table, (accepted run h).size)

  pub table_of_passed : run_check run ≡ passed → table_of run table ≡ take (own.0 + own.1 - own.0) (drop own.0 run)
  unfolding table_of
  table_of_passed h =
      let cut : own.0 + own.1 - own.0 ≡ own.1 = omega arith in
      rw cut (ap (λ (c : Finding). bytes_of run (handed_back c own)) h)

  pub start_of_passed : run_check run ≡ passed → table_start run table ≡ own.0
  unfolding table_start
  start_of_passed h = ap (λ (c : Finding). (handed_back c own).0) h

pub ruleset handing_back = (none_of_refused, start_of_refused, own_inside, table_of_passed, start_of_passed)
