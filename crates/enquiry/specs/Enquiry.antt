-- Enquiries (01, "Who can cause a refusal"; 02, change 2): the data run and its history afresh, then the enquiry's own checks, and then
-- the work.
use Rattle.std.specs.Prelude.{ℕ, List, ℤ}
use Rattle.basis.specs.Basis.{rated_from}
use Rattle.outcome.specs.Outcome.{Finding, Outcome, first_of, checked}
use Rattle.history.specs.History.{basis_with, run_and_history_check}
use Rattle.improvement.specs.Improvement.{first_year, improvement_of, improvement_needed}
use Rattle.projection.specs.Projection.{factor_of, rate_of}
use Rattle.survivorship.specs.declared.Kind.{Kind}
use Rattle.survivorship.specs.Survivorship.{survivors_of}
use Rattle.valuation.specs.Valuation.{expectation_of, annuity_of}
use Rattle.question.specs.Question.{cell_check, question_check}

-- every enquiry checks its data run and its history afresh
abbrev pub valuation_check : List ℕ → List ℕ → ℕ → ℕ → ℕ → Finding
valuation_check run history age deferment year = first_of (run_and_history_check run history) (question_check (rated_from (basis_with run history)) age deferment year)

-- an improvement is asked for from the first year that has one
unfoldable pub improvement_enquiry : List ℕ → List ℕ → ℕ → ℕ → Outcome ℤ
improvement_enquiry run history age year =
    let b = basis_with run history in
    checked (first_of (run_and_history_check run history) (cell_check (first_year b) age year)) (improvement_needed age year (improvement_of b age year))

-- a factor from B on
unfoldable pub factor_enquiry : List ℕ → List ℕ → ℕ → ℕ → Outcome ℤ
factor_enquiry run history age year =
    let b = basis_with run history in
    checked (first_of (run_and_history_check run history) (cell_check b.base age year)) (factor_of b age year)

-- a rate from the first year that has one
unfoldable pub rate_enquiry : List ℕ → List ℕ → ℕ → ℕ → Outcome ℤ
rate_enquiry run history age year =
    let b = basis_with run history in
    checked (first_of (run_and_history_check run history) (cell_check (rated_from b) age year)) (rate_of b age year)

-- an enquiry for survivorship names its number of years as the deferment
unfoldable pub survivorship_enquiry : List ℕ → List ℕ → Kind → ℕ → ℕ → ℕ → Outcome ℤ
survivorship_enquiry run history kind age deferment year =
    checked (valuation_check run history age deferment year) (survivors_of (basis_with run history) kind age deferment year)

unfoldable pub expectation_enquiry : List ℕ → List ℕ → Kind → ℕ → ℕ → ℕ → Outcome ℤ
expectation_enquiry run history kind age deferment year =
    checked (valuation_check run history age deferment year) (expectation_of (basis_with run history) kind age deferment year)

unfoldable pub annuity_enquiry : List ℕ → List ℕ → Kind → ℕ → ℕ → ℕ → Outcome ℤ
annuity_enquiry run history kind age deferment year =
    checked (valuation_check run history age deferment year) (annuity_of (basis_with run history) kind age deferment year)
