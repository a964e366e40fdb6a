-- The layout's offsets, lengths and limit of P are the paper's, by computation. Assumes nothing.
use mathlib.Core.Path.{◌≡◌, refl}
use Prim.Native.Nat.{◌*◌}
use Rattle.layout.specs.Layout.{Form, mpb1, mpb2, hundredths_of, greatest_of, greatest_proportion}
use Rattle.layout.specs.Printed.{Printed}

proportion-limit : (form : Form) → hundredths_of form * greatest_of form ≡ greatest_proportion
proportion-limit mpb1 = refl
proportion-limit mpb2 = refl

pub printed : Printed
printed =
    record {
      age_initial_rates = refl;
      age_long_term_rates = refl;
      age_periods = refl;
      age_proportions = refl;
      birth_year_initial_rates = refl;
      birth_year_long_term_rates = refl;
      birth_year_periods = refl;
      birth_year_proportions = refl;
      fields_fill = refl;
      data_run = refl;
      file = refl;
      finer_birth_year_initial_rates = refl;
      finer_birth_year_long_term_rates = refl;
      finer_birth_year_periods = refl;
      finer_birth_year_proportions = refl;
      finer_fields_end = refl;
      finer_data_run = refl;
      finer_file = refl;
      proportion_limit = proportion-limit;
    }
