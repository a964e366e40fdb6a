-- A lifeline is cohort survivorship: each of its steps is the next year of `survivors_of`, by induction over the years.
use mathlib.Core.Path.{◌≡◌, ◌∙◌, refl, ap, sym}
use mathlib.Core.Bool.{Bool, true, false, cond}
use mathlib.Core.List.{List}
use Prim.Native.Nat.{ℕ, zero, suc, ◌+◌, ◌≤◌, ◌<◌}
use native.Mathlib.Omega.{arith}
use native.Mathlib.Decide.{dec_lt}
use lib.Dec.{eqb}
use lib.IntN.{ℤ, pos, nat_abs}
use borrow.Author.Tests.{le-leb, ne_eqb}
use Rattle.basis.specs.Basis.{rated_from}
use Rattle.arithmetic.specs.Fraction.{U}
use Rattle.history.specs.History.{basis_with, run_and_history_check}
use Rattle.outcome.specs.Outcome.{Finding, passed, refused_by, Outcome, value, refused, checked, and_then}
use Rattle.outcome.proofs.Outcome.{both-passed, checked_value}
use Rattle.survivorship.specs.declared.Kind.TheVariants.{Cohort}
use Rattle.question.specs.Question.{age_check, deferment_check, question_check}
use Rattle.enquiry.specs.Enquiry.{valuation_check, survivorship_enquiry}
use Rattle.survivorship.specs.Survivorship.{survivors_after_year, survivors_of}
use Rattle.question.proofs.Passed.{year-passed, question-parts}
use Rattle.enquiry.proofs.Passed.{valuation-passed}
use Rattle.survivorship.proofs.Survivors.{survivors-first, survivors-on, survivors-refused, survivors-natural, survivors-small}
use Rattle.lifeline.specs.declared.Position.{Position}
use Rattle.lifeline.specs.Said.{advanced, ended, Start, Step}
use Rattle.lifeline.specs.Lifeline.{position_at, last_year_at, step_year_check, survivors_check, position_check, step_check}
use Rattle.lifeline.specs.Lifeline.{year_later, year_unless_ended, step_at, position_after}
use Rattle.lifeline.specs.Survivorship.{Advances, IsCohortSurvivorship}
use Rattle.lifeline.proofs.Steps.{start-passed, step_by, step-year, step-advanced}

position-same : {a b y z s t : ℕ} → a ≡ b → y ≡ z → s ≡ t → position_at a y s ≡ position_at b z t
position-same e f g = rw (e, f, g) refl

module _ (run history : List ℕ) (age year : ℕ) where
  -- the survivors after n years, and the lifeline's position with them
  abbrev survivors-after : ℕ → Outcome ℤ
  survivors-after n = survivors_of (basis_with run history) Cohort age n year

  abbrev years-on : ℕ → ℕ → Position
  years-on n s = position_at (age + n) (year + n) s

  -- the next step, from the position that the steps so far have come to
  after-suc : (n : ℕ) (p : Position) (s : Step)
      → position_after run history age year n ≡ p → step_at run history p ≡ s → position_after run history age year (suc n) ≡ s.position
  unfolding position_after
  after-suc n p s h e = ap (λ (x : Position). (step_at run history x).position) h ∙ ap (λ (x : Step). x.position) e

  at-start : valuation_check run history age 0 year ≡ passed → position_after run history age year 0 ≡ position_at age year U
  unfolding position_after
  at-start h = ap (λ (s : Start). s.position) (start-passed run history age year h)

  -- ---- as long as each step advances, the lifeline is n years on with the survivors after n years
  steps-survive : (n : ℕ) → valuation_check run history age 0 year ≡ passed → Advances run history age year n
      → (s : ℕ) × (position_after run history age year n ≡ years-on n s) × (survivors-after n ≡ value (pos s))
  steps-survive zero h a = (U, at-start h ∙ position-same (omega arith) (omega arith) refl, survivors-first (basis_with run history) Cohort age year)
  steps-survive (suc n) h a =
      let p = steps-survive n h (λ k l. a k (omega arith)) in
      let went = (step-advanced run history (years-on n p.0) (ap (λ (x : Position). (step_at run history x).says) (sym p.1) ∙ a n (omega arith))).2 in
      let next = survivors-on (basis_with run history) Cohort age n year (pos p.0) p.2 ∙ went.1 in
      let m = survivors-natural (basis_with run history) Cohort age (suc n) year went.0 next in
      (m.0, after-suc n _ _ p.1 went.2 ∙ position-same (omega arith) (omega arith) (ap nat_abs m.1), next ∙ ap value m.1)

  -- ---- and as long as survivorship is answered each step advances
  -- what an enquiry for n years checks lets a lifeline start
  start-passes : (n : ℕ) → valuation_check run history age n year ≡ passed → valuation_check run history age 0 year ≡ passed
  unfolding deferment_check question_check
  start-passes n h =
      let p = both-passed (run_and_history_check run history) (question_check (rated_from (basis_with run history)) age n year) h in
      let q = question-parts (rated_from (basis_with run history)) age n year p.1 in
      let v = valuation-passed run history age n year h in
      rw (p.0, q.0, q.2, le-leb (age + 0) 150 (omega (arith, v.age_high))) refl

  -- its steps before the n years are over are let through
  abbrev LetThrough : ℕ → Type 0
  LetThrough n = (k s : ℕ) → k < n → s ≤ U → step_check run history (years-on k s) ≡ passed

  -- a step before the n years are over is the next year of survivorship, answered or refused
  step-is-next-year : (n k s : ℕ) → valuation_check run history age n year ≡ passed → LetThrough n → k < n → survivors-after k ≡ value (pos s)
      → step_at run history (years-on k s) ≡ year_later (years-on k s) (survivors-after (suc k))
  step-is-next-year n k s h let_through l e =
      let v = valuation-passed run history age n year h in
      let passes = let_through k s l (survivors-small (basis_with run history) Cohort age k year s e) in
      step-year run history (years-on k s) passes (ne_eqb (age + k) 150 (λ g. omega (arith, v.age_high)))
      ∙ ap (year_later (years-on k s)) (sym (survivors-on (basis_with run history) Cohort age k year (pos s) e))

  and_one : (k : ℕ) → Advances run history age year k
      → (step_at run history (position_after run history age year k)).says ≡ value advanced → Advances run history age year (suc k)
  and_one k before last j l = by (dec_lt j k)
    where
      by : Dec (j < k) → (step_at run history (position_after run history age year j)).says ≡ value advanced
      by (yes g) = before j g
      by (no g) = let e : j ≡ k = omega arith in ap (λ (i : ℕ). (step_at run history (position_after run history age year i)).says) e ∙ last

  -- k of n years
  abbrev AdvancesTo : ℕ → ℕ → Type 0
  AdvancesTo k s = Advances run history age year k × (position_after run history age year k ≡ years-on k s)

  advances-to : (n k s : ℕ) → valuation_check run history age n year ≡ passed → LetThrough n → k ≤ n → survivors-after k ≡ value (pos s) → AdvancesTo k s
  advances-to n zero s h let_through l e =
      let first = survivors-first (basis_with run history) Cohort age year in
      let same : U ≡ s = cc in
      ((λ k g. absurd (omega arith)), at-start (start-passes n h) ∙ position-same (omega arith) (omega arith) same)
  advances-to n (suc k) s h let_through l e = by (survivors-after k) refl (λ t. advances-to n k t h let_through (omega arith))
    where
      by : (o : Outcome ℤ) → survivors-after k ≡ o → ((t : ℕ) → survivors-after k ≡ value (pos t) → AdvancesTo k t) → AdvancesTo (suc k) s
      by (refused r) f before =
          let g = survivors-refused (basis_with run history) Cohort age k (suc k) year r (omega arith) f in
          let z : ◌≡◌ {A = ℕ} 0 1 = cc in absurd (omega arith)
      by (value t) f before =
          let m = survivors-natural (basis_with run history) Cohort age k year t f in
          let came = f ∙ ap value m.1 in
          let p = before m.0 came in
          let went = step-is-next-year n k m.0 h let_through (omega arith) came ∙ ap (year_later (years-on k m.0)) e in
          let last = ap (λ (x : Position). (step_at run history x).says) p.1 ∙ ap (λ (x : Step). x.says) went in
          (and_one k p.0 last, after-suc k _ _ p.1 went ∙ position-same (omega arith) (omega arith) refl)

  -- ---- both ways round, and what each step says
  pub is-cohort-survivorship : IsCohortSurvivorship run history age year
  unfolding survivorship_enquiry step_at year_unless_ended age_check step_year_check survivors_check position_check
  is-cohort-survivorship =
      record {
        steps_are_survivorship = steps-survive;
        survivorship_is_steps = λ n s h.
            let p = checked_value (valuation_check run history age n year) (survivors_of (basis_with run history) Cohort age n year) (pos s) h in
            advances-to n n s p.0 (let_through n p.0) (omega arith) p.1;
        says = λ s. says-by s (step_check run history (position_at age year s)) (eqb age 150) (survivors_after_year (basis_with run history) age year (pos s));
      }
    where
      says-by : (s : ℕ) (c : Finding) (e : Bool) (o : Outcome ℤ) → (step_by run history (position_at age year s) c e o).says
          ≡ checked c (cond e (value ended) (and_then o (λ t. value advanced)))
      says-by s passed false (value t) = refl
      says-by s passed false (refused r) = refl
      says-by s passed true o = refl
      says-by s (refused_by r) e o = refl

      let_through : (n : ℕ) → valuation_check run history age n year ≡ passed → LetThrough n
      let_through n h k s l u =
          let v = valuation-passed run history age n year h in
          let checks = both-passed (run_and_history_check run history) (question_check (rated_from (basis_with run history)) age n year) h in
          let rated = (year-passed _ year (question-parts _ age n year checks.1).2).0 in
          rw (
            checks.0,
            le-leb 20 (age + k) (omega (arith, v.age_low)),
            le-leb (age + k) 150 (omega (arith, v.age_high)),
            le-leb (rated_from (basis_with run history)) (year + k) (omega (arith, rated)),
            le-leb (year + k) (last_year_at (age + k)) (omega (arith, v.age_low, v.year_high)),
            le-leb s U u,
          )
          refl

  pub steps-are-survivorship : (n : ℕ) → valuation_check run history age 0 year ≡ passed → Advances run history age year n
      → (s : ℕ) × (position_after run history age year n ≡ years-on n s) × (survivors-after n ≡ value (pos s))
  steps-are-survivorship = is-cohort-survivorship.steps_are_survivorship

  pub survivorship-is-steps : (n s : ℕ) → survivorship_enquiry run history Cohort age n year ≡ value (pos s)
      → Advances run history age year n × (position_after run history age year n ≡ years-on n s)
  survivorship-is-steps = is-cohort-survivorship.survivorship_is_steps
