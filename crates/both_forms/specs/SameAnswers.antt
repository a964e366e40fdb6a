-- "MPB1 files are still read, each P times 100, and give the same results" (02, change 7): a data run of either form and the run of the other
-- form with the same fields answer alike, whatever is asked. Every answer is worked out of the run's check and of the basis that it stands
-- for, and so is the exact model.
use Rattle.std.specs.Prelude.{◌≡◌, List, ℕ, ◌≤◌, ℤ}
use Rattle.arithmetic.specs.Fraction.{U}
use Rattle.outcome.specs.Outcome.{passed}
use Rattle.layout.specs.Layout.{mpb1, mpb2}
use Rattle.basis.specs.Basis.{basis_of}
use Rattle.run_check.specs.Run.{run_check}
use Rattle.history.specs.History.{basis_with, run_and_history_check}
use Rattle.old_form.specs.OldForm.{in_form, old_form_check}
use Rattle.short_form.specs.ShortForm.{short_form_check, short_form_of}
use Rattle.survivorship.specs.declared.Kind.{Kind}
use Rattle.enquiry.specs.Enquiry.{improvement_enquiry, factor_enquiry, rate_enquiry, survivorship_enquiry, expectation_enquiry, annuity_enquiry}
use Rattle.exact.specs.Model.{exact_improvement, exact_factor, exact_rate, exact_survivors, exact_expectation, exact_annuity}
use Rattle.exact.specs.Distance.{largest_years, rate_distance}
use Rattle.small_set.specs.declared.Questions.{Questions}
use Rattle.small_set.specs.SmallSet.{small_set_of}
use Rattle.grid_record.specs.declared.Point.{Point}
use Rattle.grid.specs.Grid.{grid_check, grid_of}
use Rattle.lifeline.specs.declared.Position.{Position}
use Rattle.lifeline.specs.Lifeline.{start_at, step_at}
use Rattle.roll.specs.Kept.{joined_roll}

pub record SameAnswers (run other : List ℕ) : Type 0 where
  -- the checks, and the basis
  pub check : (history : List ℕ) → run_and_history_check run history ≡ run_and_history_check other history
  pub basis : (history : List ℕ) → basis_with run history ≡ basis_with other history
  -- the six enquiries
  pub improvement : (history : List ℕ) (age year : ℕ) → improvement_enquiry run history age year ≡ improvement_enquiry other history age year
  pub factor : (history : List ℕ) (age year : ℕ) → factor_enquiry run history age year ≡ factor_enquiry other history age year
  pub rate : (history : List ℕ) (age year : ℕ) → rate_enquiry run history age year ≡ rate_enquiry other history age year
  pub survivorship : (history : List ℕ) (kind : Kind) (age deferment year : ℕ)
      → survivorship_enquiry run history kind age deferment year ≡ survivorship_enquiry other history kind age deferment year
  pub expectation : (history : List ℕ) (kind : Kind) (age deferment year : ℕ)
      → expectation_enquiry run history kind age deferment year ≡ expectation_enquiry other history kind age deferment year
  pub annuity : (history : List ℕ) (kind : Kind) (age deferment year : ℕ)
      → annuity_enquiry run history kind age deferment year ≡ annuity_enquiry other history kind age deferment year
  -- what these are held against: the exact model, its rates of improvement that the distances' premise is about, and the years that they count
  pub exact_rates : (history : List ℕ) (age year : ℕ) → (exact_improvement (basis_with run history) age year ≡ exact_improvement (basis_with other history) age year)
      × (exact_factor (basis_with run history) age year ≡ exact_factor (basis_with other history) age year)
      × (exact_rate (basis_with run history) age year ≡ exact_rate (basis_with other history) age year)
  pub exact_values : (history : List ℕ) (kind : Kind) (age n year : ℕ)
      → (exact_survivors (basis_with run history) kind age n year ≡ exact_survivors (basis_with other history) kind age n year)
      × (exact_expectation (basis_with run history) kind age n year ≡ exact_expectation (basis_with other history) kind age n year)
      × (exact_annuity (basis_with run history) kind age n year ≡ exact_annuity (basis_with other history) kind age n year)
  pub distances : (history : List ℕ) (kind : Kind) (n year : ℕ)
      → (largest_years (basis_with run history) kind n year ≡ largest_years (basis_with other history) kind n year)
      × (rate_distance (basis_with run history) n ≡ rate_distance (basis_with other history) n)
  -- the sets
  pub small_set : (history : List ℕ) (questions : Questions) → small_set_of run history questions ≡ small_set_of other history questions
  pub grid_checked : (history : List ℕ) (count : ℕ) → grid_check run history count ≡ grid_check other history count
  pub grid : (history : List ℕ) (points : List Point) → grid_of run history points ≡ grid_of other history points
  -- a lifeline; survivors above U are refused with the length of the run that was lent
  pub start : (history : List ℕ) (age year : ℕ) → start_at run history age year ≡ start_at other history age year
  pub step : (history : List ℕ) (p : Position) → p.survivors ≤ U → step_at run history p ≡ step_at other history p
  -- a roll
  pub join : (history roll : List ℕ) (number age pension : ℕ) → joined_roll roll run history number age pension ≡ joined_roll roll other history number age pension
  -- the short forms, which answer alike in turn
  pub short_form : (rate : ℤ) → short_form_check run rate ≡ short_form_check other rate
  pub shortened : (rate : ℤ) → short_form_check run rate ≡ passed → basis_of (short_form_of run rate) ≡ basis_of (short_form_of other rate)

pub record BothForms : Type 0 where
  -- each P times 100
  pub finer : (run : List ℕ) → run_check run ≡ passed → SameAnswers run (in_form mpb2 run)
  -- each P over 100, where every P is a whole per cent
  pub older : (run : List ℕ) → old_form_check run ≡ passed → SameAnswers run (in_form mpb1 run)
  -- and so does the short form of each, which is accepted itself
  pub short_forms : (run other : List ℕ) (rate : ℤ) → SameAnswers run other → short_form_check run rate ≡ passed
      → SameAnswers (short_form_of run rate) (short_form_of other rate)
