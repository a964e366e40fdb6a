-- What a lifeline is (01: "Each step applies one year of cohort survivorship"): its steps and the enquiries for cohort survivorship give the
-- same numbers, it stops nowhere before them, and a refusal of its checks or of its year is what the step says.
use Rattle.std.specs.Prelude.{◌≡◌, cond, List, ℕ, ◌+◌, ◌<◌, eqb, pos}
use Rattle.outcome.specs.Outcome.{passed, value, checked, and_then}
use Rattle.history.specs.History.{basis_with}
use Rattle.survivorship.specs.declared.Kind.TheVariants.{Cohort}
use Rattle.survivorship.specs.Survivorship.{survivors_after_year, survivors_of}
use Rattle.enquiry.specs.Enquiry.{valuation_check, survivorship_enquiry}
use Rattle.lifeline.specs.Said.{advanced, ended}
use Rattle.lifeline.specs.Lifeline.{position_at, step_check, step_at, position_after}

-- the first n steps from a start have all advanced
abbrev pub Advances : List ℕ → List ℕ → ℕ → ℕ → ℕ → Type 0
Advances run history age year n = (k : ℕ) → k < n → (step_at run history (position_after run history age year k)).says ≡ value advanced

pub record IsCohortSurvivorship (run history : List ℕ) (age year : ℕ) : Type 0 where
  -- as long as each step advances, the lifeline is n years on with the survivors after n years
  pub steps_are_survivorship : (n : ℕ) → valuation_check run history age 0 year ≡ passed → Advances run history age year n
      → (s : ℕ) × (position_after run history age year n ≡ position_at (age + n) (year + n) s) × (survivors_of (basis_with run history) Cohort age n year ≡ value (pos s))
  -- an answered survivorship after n years is the lifeline's after n steps, all of which advanced
  pub survivorship_is_steps : (n s : ℕ) → survivorship_enquiry run history Cohort age n year ≡ value (pos s)
      → Advances run history age year n × (position_after run history age year n ≡ position_at (age + n) (year + n) s)
  -- with any survivors: it checks again; then, at age 150, it says ended; else it advances, unless the rate of that year is refused
  pub says : (survivors : ℕ) → (step_at run history (position_at age year survivors)).says
      ≡ checked (step_check run history (position_at age year survivors))
      (cond (eqb age 150) (value ended) (and_then (survivors_after_year (basis_with run history) age year (pos survivors)) (λ s. value advanced)))
