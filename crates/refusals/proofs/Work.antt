-- Survivorship, values and the four results give no number but 6 to 10: by the laws of what refuses by numbers of a list. Assumes nothing.
use mathlib.Core.List.{[], ◌∷◌}
use Prim.Native.Nat.{ℕ, suc, ◌+◌, ◌-◌, ◌/◌}
use lib.IntN.{ℤ, pos, nat_abs, ◌+ℤ◌}
use Rattle.arithmetic.specs.Fraction.{U}
use Rattle.basis.specs.Basis.{Basis, rated_from}
use Rattle.outcome.specs.Outcome.{Outcome}
use Rattle.outcome.specs.Refusals.{record_numbers, RefusedBy}
use Rattle.outcome.proofs.Refusals.{value-by, checked-by, then_by, steps-by, sum_by}
use Rattle.projection.proofs.Numbered.{rate-numbered}
use Rattle.survivorship.specs.declared.Kind.{Kind}
use Rattle.survivorship.specs.declared.Kind.TheVariants.{Period, Cohort}
use Rattle.survivorship.specs.Survivorship.{year_on, survivors_next, survivors_after_year, survivors_of}
use Rattle.valuation.specs.Valuation.{curtate_of, expectation_of, discount_after, payment, payment_after, annuity_of}
use Rattle.question.proofs.Numbered.{question-numbered}
use Rattle.question.specs.declared.Question.{Question}
use Rattle.model_points.specs.Point.{four_results_of, results_of}
use Rattle.refusals.specs.Numbered.{work_on}

module _ (b : Basis) where
  pub year-numbered : (age year : ℕ) (s : ℤ) → RefusedBy record_numbers (survivors_after_year b age year s)
  unfolding survivors_after_year
  year-numbered age year s = then_by (rate-numbered b age year) (λ q. value-by (survivors_next s q))

  module _ (kind : Kind) (age : ℕ) where
    pub survivors-numbered : (n year : ℕ) → RefusedBy record_numbers (survivors_of b kind age n year)
    unfolding survivors_of
    survivors-numbered n year = steps-by (pos U) n (λ j s. year-numbered (age + j) (year_on kind j year) s)

    curtate-numbered : (n year : ℕ) → RefusedBy record_numbers (curtate_of b kind age n year)
    unfolding curtate_of
    curtate-numbered n year = sum_by n (λ k. survivors-numbered (suc k) year)

    payment-numbered : (j year : ℕ) → RefusedBy record_numbers (payment_after b kind age j year)
    unfolding payment_after
    payment-numbered j year = then_by (survivors-numbered j year) (λ s. value-by (payment (discount_after b j) s))

    pub annuity-numbered : (deferment year : ℕ) → RefusedBy record_numbers (annuity_of b kind age deferment year)
    unfolding annuity_of
    annuity-numbered deferment year = sum_by (suc (150 - age - deferment)) (λ k. payment-numbered (deferment + k) year)

  pub expectation-numbered : (kind : Kind) (age deferment year : ℕ) → RefusedBy record_numbers (expectation_of b kind age deferment year)
  unfolding expectation_of
  expectation-numbered kind age deferment year =
      then_by (curtate-numbered kind (age + deferment) (150 - age - deferment) (year + deferment)) (λ t. value-by (pos (U / 2) +ℤ t))

four-numbered : {first second third fourth : Outcome ℤ} → RefusedBy record_numbers first → RefusedBy record_numbers second → RefusedBy record_numbers third
    → RefusedBy record_numbers fourth → RefusedBy record_numbers (four_results_of first second third fourth)
unfolding four_results_of
four-numbered p q r s = then_by p (λ i. then_by q (λ j. then_by r (λ k. then_by s (λ l. value-by (nat_abs i ∷ nat_abs j ∷ nat_abs k ∷ nat_abs l ∷ [])))))

-- a question, and the four results
pub work-numbered : (b : Basis) (q : Question) → RefusedBy record_numbers (work_on b q)
unfolding results_of
work-numbered b q =
    checked-by (question-numbered (rated_from b) q.age q.deferment q.year)
    (four-numbered
    (expectation-numbered b Period q.age q.deferment q.year)
    (expectation-numbered b Cohort q.age q.deferment q.year)
    (annuity-numbered b Period q.age q.deferment q.year)
    (annuity-numbered b Cohort q.age q.deferment q.year))
