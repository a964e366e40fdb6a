-- The nine tables of a data run (01, "The basis file"): where each stands, and what is handed back of it.
use Rattle.std.specs.Prelude.{ℕ, ◌*◌, List, length, take, drop}
use Rattle.outcome.specs.Outcome.{Finding, passed, refused_by}
use Rattle.layout.specs.Layout.{Form, width_of, proportion_of, form_of_run, ages, birth_years, base_rates_at}
use Rattle.layout.specs.Layout.{age_initial_rates_at, age_long_term_rates_at, age_periods_at, age_proportions_at}
use Rattle.layout.specs.Layout.{birth_year_initial_rates_at, birth_year_long_term_rates_at, birth_year_periods_at, birth_year_proportions_at}
use Rattle.run_check.specs.Run.{run_check}
use Rattle.tables.specs.declared.Table.{Table}
use Rattle.tables.specs.declared.Table.TheVariants.{BaseRates, AgeInitialRates, AgeLongTermRates, AgePeriods, AgeProportions}
use Rattle.tables.specs.declared.Table.TheVariants.{BirthYearInitialRates, BirthYearLongTermRates, BirthYearPeriods, BirthYearProportions}

-- a stretch of a run: its offset, and how many bytes it has
abbrev pub Stretch : Type 0
Stretch = ℕ × ℕ

-- each table's stretch in a run of a form
abbrev pub stretch_of : Form → Table → Stretch
stretch_of form BaseRates = (base_rates_at, 4 * ages)
stretch_of form AgeInitialRates = (age_initial_rates_at, 4 * ages)
stretch_of form AgeLongTermRates = (age_long_term_rates_at, 4 * ages)
stretch_of form AgePeriods = (age_periods_at, ages)
stretch_of form AgeProportions = (age_proportions_at, width_of (proportion_of form) * ages)
stretch_of form BirthYearInitialRates = (birth_year_initial_rates_at form, 4 * birth_years)
stretch_of form BirthYearLongTermRates = (birth_year_long_term_rates_at form, 4 * birth_years)
stretch_of form BirthYearPeriods = (birth_year_periods_at form, birth_years)
stretch_of form BirthYearProportions = (birth_year_proportions_at form, width_of (proportion_of form) * birth_years)

-- the stretch that is handed back; of a refused run it has length 0
abbrev pub handed_back : Finding → Stretch → Stretch
handed_back passed stretch = stretch
handed_back (refused_by r) stretch = (0, 0)

abbrev pub table_stretch : List ℕ → Table → Stretch
table_stretch run table = handed_back (run_check run) (stretch_of (form_of_run (length run)) table)

unfoldable pub table_start : List ℕ → Table → ℕ
table_start run table = (table_stretch run table).0

abbrev pub bytes_of : List ℕ → Stretch → List ℕ
bytes_of run s = take s.1 (drop s.0 run)

unfoldable pub table_of : List ℕ → Table → List ℕ
table_of run table = bytes_of run (table_stretch run table)
