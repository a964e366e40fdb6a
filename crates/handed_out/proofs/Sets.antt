-- A point's results are those of four enquiries, and so within their distances; a record of the grid and a point of the small set are such
-- points. Assumes nothing.
use mathlib.Core.Path.{◌≡◌, ◌∙◌, ap, sym, refl}
use mathlib.Core.List.{List, [], ◌∷◌, map}
use Prim.Native.Nat.{ℕ, zero, suc, ◌<◌}
use native.Mathlib.Nat.{not-suc-le-zero, le_of_suc-le-suc}
use native.Mathlib.Omega.{arith}
use lib.IntN.{ℤ, pos, nat_abs}
use lib.ListN.{length, get_or}
use Rattle.basis.specs.Basis.{Basis, rated_from}
use Rattle.outcome.specs.Outcome.{passed, Outcome, value, refused}
use Rattle.outcome.proofs.Outcome.{both-passed, checked_value}
use Rattle.lent.specs.Lent.{count_check}
use Rattle.history.specs.History.{basis_with, run_and_history_check}
use Rattle.survivorship.specs.declared.Kind.{Kind}
use Rattle.survivorship.specs.declared.Kind.TheVariants.{Period, Cohort}
use Rattle.valuation.specs.Valuation.{expectation_of, annuity_of}
use Rattle.question.specs.Question.{question_check}
use Rattle.enquiry.specs.Enquiry.{valuation_check}
use Rattle.question.specs.declared.Question.{Question}
use Rattle.model_points.specs.declared.PointAnswer.{PointAnswer}
use Rattle.model_points.specs.Point.{four_results_of, results_of, point_answer_of, point_of}
use Rattle.small_set.specs.declared.Questions.{Questions}
use Rattle.small_set.specs.SmallSet.{small_set_of}
use Rattle.grid_record.specs.declared.Point.{Point}
use Rattle.grid_record.specs.Record.{question_of, answered_of}
use Rattle.grid.specs.Grid.{grid_check, records_of, answers, grid_of}
use Rattle.grid.proofs.Filled.{records-fit}
use Rattle.engine.specs.Enquiry.{refusal_of}
use Rattle.exact.proofs.Demands.{demand-3}
use Rattle.exact.proofs.Values.{quarters-more}
use Rattle.refusals.specs.Numbered.{work_on}
use Rattle.refusals.proofs.Calls.{numbered-refusals, zero-is-none}
use Rattle.handed_out.specs.HandedOut.{ExpectationNear, AnnuityNear, ResultsNear}
use Rattle.handed_out.proofs.Natural.{size_is}
use Rattle.handed_out.proofs.Answers.{expectation-answer, annuity-answer, annuity-near, expectation-asked, annuity-asked}

-- four results came from four values, in their order
pub record Four (first second third fourth : Outcome ℤ) (results : List ℕ) : Type 0 where
  pub values : (i : ℤ) × (j : ℤ) × (k : ℤ) × (l : ℤ) × (first ≡ value i) × (second ≡ value j) × (third ≡ value k) × (fourth ≡ value l)
      × (results ≡ nat_abs i ∷ nat_abs j ∷ nat_abs k ∷ nat_abs l ∷ [])

four-came : (first second third fourth : Outcome ℤ) (results : List ℕ) → four_results_of first second third fourth ≡ value results → Four first second third fourth results
unfolding four_results_of
four-came (value i) (value j) (value k) (value l) results h =
    let e : results ≡ nat_abs i ∷ nat_abs j ∷ nat_abs k ∷ nat_abs l ∷ [] = cc in
    record { values = (i, j, k, l, refl, refl, refl, refl, e) }
four-came (value i) (value j) (value k) (refused r) results h = let z : ◌≡◌ {A = ℕ} 0 1 = cc in absurd (omega arith)
four-came (value i) (value j) (refused r) fourth results h = let z : ◌≡◌ {A = ℕ} 0 1 = cc in absurd (omega arith)
four-came (value i) (refused r) third fourth results h = let z : ◌≡◌ {A = ℕ} 0 1 = cc in absurd (omega arith)
four-came (refused r) second third fourth results h = let z : ◌≡◌ {A = ℕ} 0 1 = cc in absurd (omega arith)

module _ (run history : List ℕ) (accepted : run_and_history_check run history ≡ passed) where
  -- a point, by the numbers of its question
  module _ (age deferment year : ℕ) (asked : question_check (rated_from (basis_with run history)) age deferment year ≡ passed) where
    valued : valuation_check run history age deferment year ≡ passed
    valued = rw (accepted, asked) refl

    expectation-of : (kind : Kind) (e : ℤ) (n : ℕ) → expectation_of (basis_with run history) kind age deferment year ≡ value e → n ≡ nat_abs e
        → ExpectationNear (basis_with run history) kind age deferment year (pos n)
    expectation-of kind e n h g =
        let answer = expectation-asked run history kind age deferment year valued e h in
        rw (g, size_is e (expectation-answer run history kind age deferment year e answer))
        (λ improving. quarters-more ((demand-3 run history).expectation kind age deferment year e answer improving) (omega arith))

    annuity-of : (kind : Kind) (a : ℤ) (n : ℕ) → annuity_of (basis_with run history) kind age deferment year ≡ value a → n ≡ nat_abs a
        → AnnuityNear (basis_with run history) kind age deferment year (pos n)
    annuity-of kind a n h g =
        let answer = annuity-asked run history kind age deferment year valued a h in
        rw (g, size_is a (annuity-answer run history kind age deferment year a answer)) (annuity-near run history kind age deferment year a answer)

  results-near : (q : Question) (results : List ℕ) → work_on (basis_with run history) q ≡ value results → ResultsNear (basis_with run history) q results
  unfolding results_of
  results-near q results h =
      let b = basis_with run history in
      let w = checked_value (question_check (rated_from b) q.age q.deferment q.year) (results_of b q.age q.deferment q.year) results h in
      let four = (four-came
      (expectation_of b Period q.age q.deferment q.year) (expectation_of b Cohort q.age q.deferment q.year)
      (annuity_of b Period q.age q.deferment q.year) (annuity_of b Cohort q.age q.deferment q.year) results w.1).values in
      let same = four.8 in
      record {
        period_expectation = expectation-of q.age q.deferment q.year w.0 Period four.0 _ four.4 (ap (λ (l : List ℕ). get_or l 0 0) same);
        cohort_expectation = expectation-of q.age q.deferment q.year w.0 Cohort four.1 _ four.5 (ap (λ (l : List ℕ). get_or l 1 0) same);
        period_annuity = annuity-of q.age q.deferment q.year w.0 Period four.2 _ four.6 (ap (λ (l : List ℕ). get_or l 2 0) same);
        cohort_annuity = annuity-of q.age q.deferment q.year w.0 Cohort four.3 _ four.7 (ap (λ (l : List ℕ). get_or l 3 0) same);
      }

  pub point-near : (q : Question) → (point_of (basis_with run history) q).refusal.number ≡ 0
      → ResultsNear (basis_with run history) q (point_of (basis_with run history) q).results
  unfolding point_of
  point-near q answered =
      let w = zero-is-none.point (work_on (basis_with run history) q) ((numbered-refusals run history).point q).0 answered in
      by (work_on (basis_with run history) q) w.1 (results-near q w.0 w.1)
    where
      by : (o : Outcome (List ℕ)) {results : List ℕ} → o ≡ value results → ResultsNear (basis_with run history) q results
          → ResultsNear (basis_with run history) q (point_answer_of o).results
      by o e near = rw e near

-- ---- the grid
answers_at : (b : Basis) (n i : ℕ) (points : List Point) (past : Point) → i < n → i < length points → get_or (answers b n points) i past ≡ answered_of b (get_or points i past)
unfolding answers
answers_at b zero i points past l h = absurd (not-suc-le-zero l)
answers_at b (suc n) i [] past l h = absurd (not-suc-le-zero h)
answers_at b (suc n) zero (p ∷ points) past l h = refl
answers_at b (suc n) (suc i) (p ∷ points) past l h = answers_at b n i points past (le_of_suc-le-suc l) (le_of_suc-le-suc h)

module _ (run history : List ℕ) where
  pub record-near : (points : List Point) → (refusal_of (grid_check run history (length points))).number ≡ 0 → (i : ℕ) → i < 119 → (past : Point) →
      (get_or (grid_of run history points) i past).refusal ≡ 0 →
      ResultsNear (basis_with run history) (question_of (get_or (grid_of run history points) i past)) (get_or (grid_of run history points) i past).results
  unfolding grid_of grid_check answered_of
  record-near points filled i l past none =
      let b = basis_with run history in
      let g = zero-is-none.check (grid_check run history (length points)) ((numbered-refusals run history).grid (length points)) filled in
      let accepted = (both-passed (count_check 119 (length points)) (run_and_history_check run history) g).1 in
      let all = ap records_of g in
      let fit = records-fit run history (length points) in
      let is : get_or (grid_of run history points) i past ≡ answered_of b (get_or points i past) = rw all (answers_at b 119 i points past l (omega (arith, fit, all))) in
      rw is (point-near run history accepted (question_of (get_or points i past)) (sym (ap (λ (p : Point). p.refusal) is) ∙ none))

  -- ---- the small set
  get_d_map : {A B : Type 0} (f : A → B) (l : List A) (i : ℕ) (a : A) (b : B) → i < length l → get_or (map f l) i b ≡ f (get_or l i a)
  get_d_map f [] i a b h = absurd (not-suc-le-zero h)
  get_d_map f (x ∷ l) zero a b h = refl
  get_d_map f (x ∷ l) (suc i) a b h = get_d_map f l i a b (le_of_suc-le-suc h)

  pub set-near : (questions : Questions) → (small_set_of run history questions).refusal.number ≡ 0 → (i : ℕ) → i < length questions.points
      → (no_question : Question) (no_answer : PointAnswer) →
      (get_or (small_set_of run history questions).points i no_answer).refusal.number ≡ 0 →
      ResultsNear (basis_with run history) (get_or questions.points i no_question) (get_or (small_set_of run history questions).points i no_answer).results
  unfolding small_set_of
  set-near questions filled i l no_question no_answer none =
      let b = basis_with run history in
      let accepted = zero-is-none.check (run_and_history_check run history) (numbered-refusals run history).with_history
      (sym (ap (λ r. r.number) ((numbered-refusals run history).small_set questions)) ∙ filled) in
      let is : get_or (small_set_of run history questions).points i no_answer ≡ point_of b (get_or questions.points i no_question) =
      rw accepted (get_d_map (point_of b) questions.points i no_question no_answer l) in
      rw is (point-near run history accepted (get_or questions.points i no_question) (sym (ap (λ (a : PointAnswer). a.refusal.number) is) ∙ none))
