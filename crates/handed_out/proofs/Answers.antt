-- An answer of an enquiry is a natural number, and demand 3 has its distance; so has the number in the answer that C is handed, since no
-- refusal has number 0. Assumes nothing.
use mathlib.Core.Path.{◌≡◌, refl}
use mathlib.Core.List.{List}
use Prim.Native.Nat.{ℕ}
use native.Mathlib.Omega.{arith}
use lib.IntN.{ℤ, pos}
use Rattle.basis.specs.Basis.{rated_from}
use Rattle.outcome.specs.Outcome.{passed, Outcome, value, first_of}
use Rattle.outcome.specs.Refusals.{numbers, RefusedBy}
use Rattle.outcome.proofs.Outcome.{checked_value}
use Rattle.history.specs.History.{basis_with, run_and_history_check}
use Rattle.projection.specs.Projection.{factor_of, rate_of}
use Rattle.projection.proofs.Years.{factor-natural, rate-small}
use Rattle.survivorship.specs.declared.Kind.{Kind}
use Rattle.survivorship.specs.Survivorship.{survivors_of}
use Rattle.survivorship.proofs.Survivors.{survivors-natural}
use Rattle.valuation.specs.Valuation.{expectation_of, annuity_of}
use Rattle.question.specs.Question.{cell_check}
use Rattle.enquiry.specs.Enquiry.{valuation_check, factor_enquiry, rate_enquiry, survivorship_enquiry, expectation_enquiry, annuity_enquiry}
use Rattle.engine.specs.Enquiry.{answer_of}
use Rattle.engine.proofs.Handed.{value-handed}
use Rattle.exact.proofs.Demands.{demand-3}
use Rattle.exact.proofs.Values.{quarters-more}
use Rattle.handed_out.specs.HandedOut.{AnnuityNear}
use Rattle.handed_out.proofs.Natural.{Natural, expectation-natural, annuity-natural}

-- what holds of every value holds of the number in the answer
pub handed : (P : ℤ → Type 0) (work : Outcome ℤ) → RefusedBy numbers work →
    ((v : ℤ) → work ≡ value v → Natural v) → ((v : ℤ) → work ≡ value v → P v) →
    (answer_of work).refusal.number ≡ 0 → P (pos (answer_of work).value)
handed P work numbered natural near none = near (pos (answer_of work).value) (value-handed work numbered natural none)

module _ (run history : List ℕ) where
  -- ---- no value is below zero
  pub factor-answer : (age year : ℕ) (f : ℤ) → factor_enquiry run history age year ≡ value f → Natural f
  unfolding factor_enquiry
  factor-answer age year f h =
      let b = basis_with run history in
      factor-natural b age year f (checked_value (first_of (run_and_history_check run history) (cell_check b.base age year)) (factor_of b age year) f h).1

  pub rate-answer : (age year : ℕ) (q : ℤ) → rate_enquiry run history age year ≡ value q → Natural q
  unfolding rate_enquiry
  rate-answer age year q h =
      let b = basis_with run history in
      let n = rate-small b age year q (checked_value (first_of (run_and_history_check run history) (cell_check (rated_from b) age year)) (rate_of b age year) q h).1 in
      (n.0, n.1)

  module _ (kind : Kind) (age deferment year : ℕ) where
    pub survivorship-answer : (s : ℤ) → survivorship_enquiry run history kind age deferment year ≡ value s → Natural s
    unfolding survivorship_enquiry
    survivorship-answer s h =
        let b = basis_with run history in
        let n = survivors-natural b kind age deferment year s (checked_value (valuation_check run history age deferment year) (survivors_of b kind age deferment year) s h).1 in
        (n.0, n.1)

    pub expectation-answer : (e : ℤ) → expectation_enquiry run history kind age deferment year ≡ value e → Natural e
    unfolding expectation_enquiry
    expectation-answer e h =
        let b = basis_with run history in
        expectation-natural b kind age deferment year e (checked_value (valuation_check run history age deferment year) (expectation_of b kind age deferment year) e h).1

    pub annuity-answer : (a : ℤ) → annuity_enquiry run history kind age deferment year ≡ value a → Natural a
    unfolding annuity_enquiry
    annuity-answer a h =
        let b = basis_with run history in
        annuity-natural b kind age deferment year a (checked_value (valuation_check run history age deferment year) (annuity_of b kind age deferment year) a h).1

    -- ---- the distance of an annuity, of either sign of the rate of discount
    pub annuity-near : (a : ℤ) → annuity_enquiry run history kind age deferment year ≡ value a → AnnuityNear (basis_with run history) kind age deferment year a
    annuity-near a h =
        record {
          once = λ sign improving. quarters-more ((demand-3 run history).annuity sign kind age deferment year a h improving) (omega arith);
          below_zero = λ sign improving. quarters-more ((demand-3 run history).annuity_below_zero sign kind age deferment year a h improving) (omega arith);
        }

    -- ---- work that passes the checks of its enquiry is its answer
    module _ (p : valuation_check run history age deferment year ≡ passed) where
      pub survivorship-asked : (s : ℤ) → survivors_of (basis_with run history) kind age deferment year ≡ value s
          → survivorship_enquiry run history kind age deferment year ≡ value s
      unfolding survivorship_enquiry
      survivorship-asked s h = rw (p, h) refl

      pub expectation-asked : (e : ℤ) → expectation_of (basis_with run history) kind age deferment year ≡ value e
          → expectation_enquiry run history kind age deferment year ≡ value e
      unfolding expectation_enquiry
      expectation-asked e h = rw (p, h) refl

      pub annuity-asked : (a : ℤ) → annuity_of (basis_with run history) kind age deferment year ≡ value a → annuity_enquiry run history kind age deferment year ≡ value a
      unfolding annuity_enquiry
      annuity-asked a h = rw (p, h) refl
