-- What an enquiry knows once its checks have passed: all that the work asks for. From the laws of checks.
use mathlib.Core.Path.{◌≡◌, ◌∙◌, sym}
use mathlib.Core.List.{List}
use Prim.Native.Nat.{ℕ, ◌≤◌}
use native.Mathlib.Omega.{arith}
use Rattle.basis.specs.Basis.{basis_of, Accepted, rated_from}
use Rattle.outcome.specs.Outcome.{passed, first_of}
use Rattle.outcome.proofs.Outcome.{first-passed, both-passed}
use Rattle.history.specs.Checked.{Cell, Life}
use Rattle.history.specs.History.{basis_with, run_and_history_check, Workable}
use Rattle.history.proofs.Acceptance.{accepted-workable}
use Rattle.improvement.specs.Improvement.{first_year}
use Rattle.improvement.specs.Checked.{ImprovedCell}
use Rattle.improvement.proofs.Cases.{first_with}
use Rattle.question.specs.Question.{cell_check, question_check}
use Rattle.question.proofs.Passed as question
use Rattle.enquiry.specs.Enquiry.{valuation_check}

-- a cell from a year on that is not before B
pub cell-passed : (run history : List ℕ) (first age year : ℕ) → (basis_with run history).base ≤ first →
    first_of (run_and_history_check run history) (cell_check first age year) ≡ passed → Cell run history age year
cell-passed run history first age year from h =
    let p = both-passed (run_and_history_check run history) (cell_check first age year) h in
    let q = question.cell-passed first age year p.1 in
    record { usable = accepted-workable run history p.0; age_low = q.0; age_high = q.1; year_low = omega (arith, from, q.2); birth_high = omega (arith, q.0, q.3) }

-- one from the first year that has an improvement on
pub improved-passed : (run history : List ℕ) (age year : ℕ) → first_of (run_and_history_check run history) (cell_check (first_year (basis_with run history)) age year) ≡ passed →
    ImprovedCell run history age year
improved-passed run history age year h =
    let first = first_year (basis_with run history) in
    let p = both-passed (run_and_history_check run history) (cell_check first age year) h in
    let q = question.cell-passed first age year p.1 in
    record {
      usable = accepted-workable run history p.0;
      age_low = q.0;
      age_high = q.1;
      year_low = q.2;
      birth_high = omega (arith, q.0, q.3);
    }

pub valuation-passed : (run history : List ℕ) (age deferment year : ℕ) → valuation_check run history age deferment year ≡ passed → Life run history age deferment year
valuation-passed run history age deferment year h =
    let p = both-passed (run_and_history_check run history) (question_check (rated_from (basis_with run history)) age deferment year) h in
    question.question-passed run history age deferment year (accepted-workable run history p.0) p.1

-- ---- the same by the checks one after the other, as the code goes through them
module _ (run history : List ℕ) (fresh : passed ≡ run_and_history_check run history) where
  pub workable : Workable run history
  workable = accepted-workable run history (sym fresh)

  pub accepted : Accepted run
  accepted = workable.basis

  pub asked_cell : (first age year : ℕ) → passed ≡ cell_check first age year → (basis_with run history).base ≤ first → Cell run history age year
  asked_cell first age year h from =
      cell-passed run history first age year from (first-passed (run_and_history_check run history) (cell_check first age year) (sym fresh) ∙ sym h)

  pub improved_cell : (first age year : ℕ) → passed ≡ cell_check first age year → first ≡ first_year (basis_of run) → ImprovedCell run history age year
  improved_cell first age year h e =
      let q = question.cell-passed first age year (sym h) in
      record {
        usable = workable;
        age_low = q.0;
        age_high = q.1;
        year_low = omega (arith, e, first_with run history, q.2);
        birth_high = omega (arith, q.0, q.3);
      }

pub asked_life : (run history : List ℕ) (age deferment year : ℕ) → passed ≡ valuation_check run history age deferment year → Life run history age deferment year
asked_life run history age deferment year h = valuation-passed run history age deferment year (sym h)

pub asked_workable : (run history : List ℕ) (age deferment year : ℕ) → passed ≡ valuation_check run history age deferment year → Workable run history
asked_workable run history age deferment year h = (asked_life run history age deferment year h).usable

pub ruleset asked = (workable, asked_workable, accepted, asked_cell, improved_cell, asked_life, first_with)
