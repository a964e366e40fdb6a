-- After n steps that have all advanced a lifeline has the survivors of n years of cohort survivorship, and so their distance. Assumes nothing.
use mathlib.Core.Path.{◌≡◌, ◌∙◌, ap, sym, refl}
use mathlib.Core.List.{List}
use Prim.Native.Nat.{ℕ, zero, suc, ◌+◌, ◌≤◌, ◌<◌}
use native.Mathlib.Omega.{arith}
use native.Mathlib.Decide.{dec_lt}
use lib.IntN.{pos}
use borrow.Author.Tests.{le-leb, eqb-false}
use Rattle.basis.specs.Basis.{rated_from}
use Rattle.arithmetic.proofs.Distance.{within_more}
use Rattle.outcome.specs.Outcome.{Finding, passed, refused_by, value}
use Rattle.outcome.proofs.Outcome.{both-passed}
use Rattle.history.specs.History.{basis_with, run_and_history_check}
use Rattle.survivorship.specs.declared.Kind.TheVariants.{Cohort}
use Rattle.question.specs.Question.{deferment_check, question_check}
use Rattle.question.proofs.Passed.{question-parts}
use Rattle.enquiry.specs.Enquiry.{valuation_check}
use Rattle.enquiry.proofs.Passed.{valuation-passed}
use Rattle.lifeline.specs.declared.Position.{Position}
use Rattle.lifeline.specs.Said.{advanced}
use Rattle.lifeline.specs.Lifeline.{position_at, start_unless_refused, start_at, step_at, position_after}
use Rattle.lifeline.proofs.Steps.{step-passed, step-advanced}
use Rattle.lifeline.specs.Survivorship.{Advances}
use Rattle.lifeline.proofs.Survivorship.{steps-are-survivorship}
use Rattle.engine.specs.Lifelines.{lifeline_of_start}
use Rattle.exact.proofs.Demands.{demand-3}
use Rattle.refusals.proofs.Calls.{numbered-refusals, zero-is-none}
use Rattle.handed_out.specs.HandedOut.{SurvivorsNear}
use Rattle.handed_out.proofs.Answers.{survivorship-asked}

at_most : {age : ℕ} → age ≤ 150 → (age ≡ 150 → ⊥) → age < 150
at_most {age} l apart = by (dec_lt age 150)
  where
    by : Dec (age < 150) → age < 150
    by (yes g) = g
    by (no g) = absurd (apart (omega arith))

-- a step that advanced was of an age below 150
below : (run history : List ℕ) (p : Position) → (step_at run history p).says ≡ value advanced → p.age < 150
below run history p h =
    let c = step-advanced run history p h in
    at_most (step-passed run history p c.0).0.age_high (eqb-false p.age 150 c.1)

module _ (run history : List ℕ) (age year : ℕ) where
  -- a start that is not refused has passed its checks
  started : (lifeline_of_start (start_at run history age year)).refusal.number ≡ 0 → valuation_check run history age 0 year ≡ passed
  unfolding start_at
  started unrefused =
      let c = zero-is-none.check (start_at run history age year).check ((numbered-refusals run history).start age year) unrefused in
      by (valuation_check run history age 0 year) c
    where
      by : (c : Finding) → (start_unless_refused age year c).check ≡ passed → c ≡ passed
      by passed g = refl
      by (refused_by r) g = g

  -- n steps come to age 150 at most, so that n years may be asked for
  asked : (n : ℕ) → valuation_check run history age 0 year ≡ passed → Advances run history age year n → valuation_check run history age n year ≡ passed
  unfolding deferment_check question_check
  asked n h a =
      let p = both-passed (run_and_history_check run history) (question_check (rated_from (basis_with run history)) age 0 year) h in
      let q = question-parts (rated_from (basis_with run history)) age 0 year p.1 in
      rw (p.0, q.0, q.2, le-leb (age + n) 150 (old n a)) refl
    where
      old : (n : ℕ) → Advances run history age year n → age + n ≤ 150
      old zero a = let v = valuation-passed run history age 0 year h in v.age_high
      old (suc k) a =
          let s = steps-are-survivorship run history age year k h (λ j l. a j (omega arith)) in
          let last = below run history (position_at (age + k) (year + k) s.0) (ap (λ (x : Position). (step_at run history x).says) (sym s.1) ∙ a k (omega arith)) in
          omega (arith, last)

  pub lifeline-near : (n : ℕ) → (lifeline_of_start (start_at run history age year)).refusal.number ≡ 0 → Advances run history age year n →
      SurvivorsNear (basis_with run history) Cohort age n year (pos (position_after run history age year n).survivors)
  lifeline-near n unrefused a =
      let h = started unrefused in
      let s = steps-are-survivorship run history age year n h a in
      let answer = survivorship-asked run history Cohort age n year (asked n h a) (pos s.0) s.2 in
      rw (ap (λ (x : Position). x.survivors) s.1)
      (λ improving. within_more ((demand-3 run history).survivorship Cohort age n year (pos s.0) answer improving) (omega arith))
