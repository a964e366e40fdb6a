-- The offsets and lengths of each form that 01 prints ("The basis file") and 02 gives (change 7), and that a form's limit of P is that
-- of a basis.
use Rattle.std.specs.Prelude.{◌*◌, ◌≡◌}
use Rattle.layout.specs.Layout.{Form, mpb1, mpb2, hundredths_of, greatest_of, run_length, file_length, fields_end, greatest_proportion}
use Rattle.layout.specs.Layout.{age_initial_rates_at, age_long_term_rates_at, age_periods_at, age_proportions_at}
use Rattle.layout.specs.Layout.{birth_year_initial_rates_at, birth_year_long_term_rates_at, birth_year_periods_at, birth_year_proportions_at}

pub record Printed : Type 0 where
  -- of both forms
  pub age_initial_rates : age_initial_rates_at ≡ 554
  pub age_long_term_rates : age_long_term_rates_at ≡ 1078
  pub age_periods : age_periods_at ≡ 1602
  pub age_proportions : age_proportions_at ≡ 1733
  -- of MPB1, whose fields fill the run
  pub birth_year_initial_rates : birth_year_initial_rates_at mpb1 ≡ 1864
  pub birth_year_long_term_rates : birth_year_long_term_rates_at mpb1 ≡ 2940
  pub birth_year_periods : birth_year_periods_at mpb1 ≡ 4016
  pub birth_year_proportions : birth_year_proportions_at mpb1 ≡ 4285
  pub fields_fill : fields_end mpb1 ≡ run_length mpb1
  pub data_run : run_length mpb1 ≡ 4554
  pub file : file_length mpb1 ≡ 4608
  -- of MPB2, each P byte replaced by two
  pub finer_birth_year_initial_rates : birth_year_initial_rates_at mpb2 ≡ 1995
  pub finer_birth_year_long_term_rates : birth_year_long_term_rates_at mpb2 ≡ 3071
  pub finer_birth_year_periods : birth_year_periods_at mpb2 ≡ 4147
  pub finer_birth_year_proportions : birth_year_proportions_at mpb2 ≡ 4416
  pub finer_fields_end : fields_end mpb2 ≡ 4954
  pub finer_data_run : run_length mpb2 ≡ 5060
  pub finer_file : file_length mpb2 ≡ 5120
  -- 150 per cent
  pub proportion_limit : (form : Form) → hundredths_of form * greatest_of form ≡ greatest_proportion
