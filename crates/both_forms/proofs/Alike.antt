-- Two data runs that pass their check and stand for the same basis answer alike. Assumes nothing.
use mathlib.Core.Path.{◌≡◌, refl}
use mathlib.Core.List.{List}
use Prim.Native.Nat.{ℕ, ◌≤◌}
use borrow.Author.Tests.{le-leb}
use Rattle.arithmetic.specs.Fraction.{U}
use Rattle.basis.specs.Basis.{basis_of}
use Rattle.run_check.specs.Run.{run_check}
use Rattle.history.specs.History.{basis_with, run_and_history_check}
use Rattle.survivorship.specs.declared.Kind.{Kind}
use Rattle.enquiry.specs.Enquiry.{improvement_enquiry, factor_enquiry, rate_enquiry, survivorship_enquiry, expectation_enquiry, annuity_enquiry}
use Rattle.exact.specs.Model.{exact_improvement, exact_factor, exact_rate, exact_survivors, exact_expectation, exact_annuity}
use Rattle.exact.specs.Distance.{largest_years, rate_distance}
use Rattle.small_set.specs.declared.Questions.{Questions}
use Rattle.small_set.specs.SmallSet.{small_set_of}
use Rattle.grid_record.specs.declared.Point.{Point}
use Rattle.grid.specs.Grid.{grid_check, grid_of}
use Rattle.lifeline.specs.declared.Position.{Position}
use Rattle.lifeline.specs.Lifeline.{start_at, step_at, survivors_check, position_check}
use Rattle.roll.specs.Kept.{joined_roll, joining}
use Rattle.roll.specs.Roll.{liability_on, liability_joining}

module _ (run other : List ℕ) (checked : run_check run ≡ run_check other) (stands : basis_of run ≡ basis_of other) where
  pub same_check : (history : List ℕ) → run_and_history_check run history ≡ run_and_history_check other history
  unfolding run_and_history_check
  same_check history = rw (checked, stands) refl

  pub same-basis : (history : List ℕ) → basis_with run history ≡ basis_with other history
  same-basis history = rw stands refl

  -- ---- the six enquiries
  pub same-improvement : (history : List ℕ) (age year : ℕ) → improvement_enquiry run history age year ≡ improvement_enquiry other history age year
  unfolding improvement_enquiry run_and_history_check
  same-improvement history age year = rw (checked, stands) refl

  pub same-factor : (history : List ℕ) (age year : ℕ) → factor_enquiry run history age year ≡ factor_enquiry other history age year
  unfolding factor_enquiry run_and_history_check
  same-factor history age year = rw (checked, stands) refl

  pub same-rate : (history : List ℕ) (age year : ℕ) → rate_enquiry run history age year ≡ rate_enquiry other history age year
  unfolding rate_enquiry run_and_history_check
  same-rate history age year = rw (checked, stands) refl

  module _ (history : List ℕ) (kind : Kind) (age deferment year : ℕ) where
    pub same-survivorship : survivorship_enquiry run history kind age deferment year ≡ survivorship_enquiry other history kind age deferment year
    unfolding survivorship_enquiry run_and_history_check
    same-survivorship = rw (checked, stands) refl

    pub same-expectation : expectation_enquiry run history kind age deferment year ≡ expectation_enquiry other history kind age deferment year
    unfolding expectation_enquiry run_and_history_check
    same-expectation = rw (checked, stands) refl

    pub same-annuity : annuity_enquiry run history kind age deferment year ≡ annuity_enquiry other history kind age deferment year
    unfolding annuity_enquiry run_and_history_check
    same-annuity = rw (checked, stands) refl

  -- ---- the exact model and the distances
  module _ (history : List ℕ) (age year : ℕ) where
    pub same-exact-rates : (exact_improvement (basis_with run history) age year ≡ exact_improvement (basis_with other history) age year)
        × (exact_factor (basis_with run history) age year ≡ exact_factor (basis_with other history) age year)
        × (exact_rate (basis_with run history) age year ≡ exact_rate (basis_with other history) age year)
    same-exact-rates = (rw stands refl, rw stands refl, rw stands refl)

  module _ (history : List ℕ) (kind : Kind) (age n year : ℕ) where
    pub same-exact-values : (exact_survivors (basis_with run history) kind age n year ≡ exact_survivors (basis_with other history) kind age n year)
        × (exact_expectation (basis_with run history) kind age n year ≡ exact_expectation (basis_with other history) kind age n year)
        × (exact_annuity (basis_with run history) kind age n year ≡ exact_annuity (basis_with other history) kind age n year)
    same-exact-values = (rw stands refl, rw stands refl, rw stands refl)

  module _ (history : List ℕ) (kind : Kind) (n year : ℕ) where
    pub same-distances : (largest_years (basis_with run history) kind n year ≡ largest_years (basis_with other history) kind n year)
        × (rate_distance (basis_with run history) n ≡ rate_distance (basis_with other history) n)
    same-distances = (rw stands refl, refl)

  -- ---- the sets
  pub same-small-set : (history : List ℕ) (questions : Questions) → small_set_of run history questions ≡ small_set_of other history questions
  unfolding small_set_of run_and_history_check
  same-small-set history questions = rw (checked, stands) refl

  pub same-grid-check : (history : List ℕ) (count : ℕ) → grid_check run history count ≡ grid_check other history count
  unfolding grid_check run_and_history_check
  same-grid-check history count = rw (checked, stands) refl

  pub same-grid : (history : List ℕ) (points : List Point) → grid_of run history points ≡ grid_of other history points
  unfolding grid_of grid_check run_and_history_check
  same-grid history points = rw (checked, stands) refl

  -- ---- a lifeline
  pub same_start : (history : List ℕ) (age year : ℕ) → start_at run history age year ≡ start_at other history age year
  unfolding start_at run_and_history_check
  same_start history age year = rw (checked, stands) refl

  pub same_step : (history : List ℕ) (p : Position) → p.survivors ≤ U → step_at run history p ≡ step_at other history p
  unfolding step_at position_check survivors_check run_and_history_check
  same_step history p h = rw (checked, stands, le-leb p.survivors U h) refl

  -- ---- a roll
  pub same-join : (history roll : List ℕ) (number age pension : ℕ) → joined_roll roll run history number age pension ≡ joined_roll roll other history number age pension
  unfolding joining liability_joining liability_on annuity_enquiry run_and_history_check
  same-join history roll number age pension = rw (checked, stands) refl
