-- A model point (01, "The small set is six model points with four results each"): what a question is answered.
use Rattle.std.specs.Prelude.{ℕ, List, [], ◌∷◌, ℤ, nat_abs, Result, Ok, Err}
use Rattle.basis.specs.Basis.{Basis, rated_from}
use Rattle.outcome.specs.declared.Refusal.{Refusal}
use Rattle.outcome.specs.Outcome.{Outcome, value, refused, checked, and_then, no_refusal}
use Rattle.survivorship.specs.declared.Kind.TheVariants.{Period, Cohort}
use Rattle.valuation.specs.Valuation.{expectation_of, annuity_of}
use Rattle.question.specs.Question.{question_check}
use Rattle.question.specs.declared.Question.{Question}
use Rattle.model_points.specs.declared.PointAnswer.{PointAnswer}

-- four results in their order, the first refusal of the four deciding; no result is below zero, so its size is the result itself
unfoldable pub four_results_of : Outcome ℤ → Outcome ℤ → Outcome ℤ → Outcome ℤ → Outcome (List ℕ)
four_results_of first second third fourth =
    and_then first (λ i. and_then second (λ j. and_then third (λ k. and_then fourth (λ l. value (nat_abs i ∷ nat_abs j ∷ nat_abs k ∷ nat_abs l ∷ [])))))

-- period and cohort expectation, period and cohort annuity
unfoldable pub results_of : Basis → ℕ → ℕ → ℕ → Outcome (List ℕ)
results_of b age deferment year =
    four_results_of
    (expectation_of b Period age deferment year)
    (expectation_of b Cohort age deferment year)
    (annuity_of b Period age deferment year)
    (annuity_of b Cohort age deferment year)

abbrev pub no_results : List ℕ
no_results = 0 ∷ 0 ∷ 0 ∷ 0 ∷ []

-- an answered point's refusal and places are 0, a refused point's four results are 0
abbrev pub point_answer_of : Outcome (List ℕ) → PointAnswer
point_answer_of (value results) = record { results = results; refusal = no_refusal }
point_answer_of (refused r) = record { results = no_results; refusal = r }

-- what four results, or a refusal in place of them, stand for
abbrev pub results_meaning : Result (List ℕ) Refusal → Outcome (List ℕ)
results_meaning (Ok results) = value results
results_meaning (Err r) = refused r

-- its own checks, then the four results
abbrev pub checked_results_of : Basis → Question → Outcome (List ℕ)
checked_results_of b q = checked (question_check (rated_from b) q.age q.deferment q.year) (results_of b q.age q.deferment q.year)

unfoldable pub point_of : Basis → Question → PointAnswer
point_of b q = point_answer_of (checked_results_of b q)
