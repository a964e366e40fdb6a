-- Demand 3 of the numbers that a host is handed (01, "Distances from the exact model"): the value of each answer in C, the results in a
-- record of the grid and in a point of the small set, and the survivors of a lifeline.
use Rattle.std.specs.Prelude.{◌≡◌, List, ℕ, ◌+◌, ◌*◌, ◌-◌, ◌<◌, ℤ, pos, length, get_or, ◌≤ℤ◌, ◌<ℤ◌}
use Rattle.arithmetic.specs.Fraction.{Within}
use Rattle.basis.specs.Basis.{Basis}
use Rattle.outcome.specs.Outcome.{value}
use Rattle.history.specs.History.{basis_with}
use Rattle.projection.specs.Projection.{years_to}
use Rattle.survivorship.specs.declared.Kind.{Kind}
use Rattle.survivorship.specs.declared.Kind.TheVariants.{Period, Cohort}
use Rattle.enquiry.specs.Enquiry.{improvement_enquiry, factor_enquiry, rate_enquiry, survivorship_enquiry, expectation_enquiry, annuity_enquiry}
use Rattle.question.specs.declared.Question.{Question}
use Rattle.model_points.specs.declared.PointAnswer.{PointAnswer}
use Rattle.small_set.specs.declared.Questions.{Questions}
use Rattle.small_set.specs.SmallSet.{small_set_of}
use Rattle.grid_record.specs.declared.Point.{Point}
use Rattle.grid_record.specs.Record.{question_of}
use Rattle.grid.specs.Grid.{grid_check, grid_of}
use Rattle.lifeline.specs.Said.{advanced}
use Rattle.lifeline.specs.Lifeline.{start_at, step_at, position_after}
use Rattle.engine.specs.Enquiry.{refusal_of, answer_of, signed_answer_of}
use Rattle.engine.specs.Lifelines.{lifeline_of_start}
use Rattle.exact.specs.Model.{exact_improvement, exact_factor, exact_rate, exact_survivors, exact_expectation, exact_annuity}
use Rattle.exact.specs.Distance.{Improving, ImprovingOver, largest_years, rate_distance, survivors_distance, expectation_distance, annuity_distance, WithinQuarters}

-- ---- a number v, and demand 3's distance for it, under its premise
abbrev pub FactorNear : Basis → ℕ → ℕ → ℤ → Type 0
FactorNear b age year v = Improving b age year → Within v (exact_factor b age year) (2 * years_to b year)

abbrev pub RateNear : Basis → ℕ → ℕ → ℤ → Type 0
RateNear b age year v = Improving b age year → Within v (exact_rate b age year) (rate_distance b (years_to b year))

abbrev pub SurvivorsNear : Basis → Kind → ℕ → ℕ → ℕ → ℤ → Type 0
SurvivorsNear b kind age n year v =
    ImprovingOver b kind age n year → Within v (exact_survivors b kind age n year) (survivors_distance n (rate_distance b (largest_years b kind n year)))

abbrev pub ExpectationNear : Basis → Kind → ℕ → ℕ → ℕ → ℤ → Type 0
ExpectationNear b kind age deferment year v =
    let N = 150 - age - deferment in
    let K = largest_years b kind N (year + deferment) in
    ImprovingOver b kind (age + deferment) N (year + deferment) → WithinQuarters v (exact_expectation b kind age deferment year) (expectation_distance N (rate_distance b K))

-- w times the distance of an annuity
abbrev pub AnnuityWithin : ℕ → Basis → Kind → ℕ → ℕ → ℕ → ℤ → Type 0
AnnuityWithin w b kind age deferment year v =
    let N = 150 - age in
    let K = largest_years b kind N year in
    ImprovingOver b kind age N year → WithinQuarters v (exact_annuity b kind age deferment year) (w * annuity_distance N (rate_distance b K))

-- once where the rate of discount is not below zero, four times where it is
pub record AnnuityNear (b : Basis) (kind : Kind) (age deferment year : ℕ) (v : ℤ) : Type 0 where
  pub once : pos 0 ≤ℤ b.discount → AnnuityWithin 1 b kind age deferment year v
  pub below_zero : b.discount <ℤ pos 0 → AnnuityWithin 4 b kind age deferment year v

-- the four results of a question, in the small set's order
pub record ResultsNear (b : Basis) (q : Question) (results : List ℕ) : Type 0 where
  pub period_expectation : ExpectationNear b Period q.age q.deferment q.year (pos (get_or results 0 0))
  pub cohort_expectation : ExpectationNear b Cohort q.age q.deferment q.year (pos (get_or results 1 0))
  pub period_annuity : AnnuityNear b Period q.age q.deferment q.year (pos (get_or results 2 0))
  pub cohort_annuity : AnnuityNear b Cohort q.age q.deferment q.year (pos (get_or results 3 0))

-- ---- what is handed out; refusal number 0 says that it is no refusal
pub record HandedOut (run history : List ℕ) : Type 0 where
  -- the answers in C, by the definitions that the contracts of the engine's functions cite
  pub improvement : (age year : ℕ) →
      let r = signed_answer_of (improvement_enquiry run history age year) in
      r.refusal.number ≡ 0 → Within r.value (exact_improvement (basis_with run history) age year) 1
  pub factor : (age year : ℕ) →
      let r = answer_of (factor_enquiry run history age year) in
      r.refusal.number ≡ 0 → FactorNear (basis_with run history) age year (pos r.value)
  pub rate : (age year : ℕ) →
      let r = answer_of (rate_enquiry run history age year) in
      r.refusal.number ≡ 0 → RateNear (basis_with run history) age year (pos r.value)
  pub survivorship : (kind : Kind) (age n year : ℕ) →
      let r = answer_of (survivorship_enquiry run history kind age n year) in
      r.refusal.number ≡ 0 → SurvivorsNear (basis_with run history) kind age n year (pos r.value)
  pub expectation : (kind : Kind) (age deferment year : ℕ) →
      let r = answer_of (expectation_enquiry run history kind age deferment year) in
      r.refusal.number ≡ 0 → ExpectationNear (basis_with run history) kind age deferment year (pos r.value)
  pub annuity : (kind : Kind) (age deferment year : ℕ) →
      let r = answer_of (annuity_enquiry run history kind age deferment year) in
      r.refusal.number ≡ 0 → AnnuityNear (basis_with run history) kind age deferment year (pos r.value)
  -- each of the first 119 records of a grid that is not refused; what stands past the end of the list is `past`
  pub grid_record : (points : List Point) → (refusal_of (grid_check run history (length points))).number ≡ 0 → (i : ℕ) → i < 119 → (past : Point) →
      let p = get_or (grid_of run history points) i past in
      p.refusal ≡ 0 → ResultsNear (basis_with run history) (question_of p) p.results
  -- each point of a small set that is not refused
  pub small_set_point : (questions : Questions) → (small_set_of run history questions).refusal.number ≡ 0 → (i : ℕ) → i < length questions.points →
      (no_question : Question) (no_answer : PointAnswer) →
      let a = get_or (small_set_of run history questions).points i no_answer in
      a.refusal.number ≡ 0 → ResultsNear (basis_with run history) (get_or questions.points i no_question) a.results
  -- a lifeline whose start is not refused, after n steps that have all advanced
  pub lifeline : (age year n : ℕ) → (lifeline_of_start (start_at run history age year)).refusal.number ≡ 0 →
      ((k : ℕ) → k < n → (step_at run history (position_after run history age year k)).says ≡ value advanced) →
      SurvivorsNear (basis_with run history) Cohort age n year (pos (position_after run history age year n).survivors)
