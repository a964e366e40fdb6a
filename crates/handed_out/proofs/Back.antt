-- The distances of what is handed out are those of demand 3 and no larger ones: from them demand 3 follows again. Assumes nothing.
use mathlib.Core.Path.{◌≡◌, refl}
use mathlib.Core.List.{List}
use Prim.Native.Nat.{ℕ}
use native.Mathlib.Omega.{arith}
use lib.IntN.{ℤ, pos}
use Rattle.outcome.specs.Outcome.{Outcome, value}
use Rattle.engine.specs.Enquiry.{answer_of, signed_answer_of}
use Rattle.survivorship.specs.declared.Kind.{Kind}
use Rattle.enquiry.specs.Enquiry.{improvement_enquiry, factor_enquiry, rate_enquiry, survivorship_enquiry, expectation_enquiry, annuity_enquiry}
use Rattle.history.specs.History.{basis_with}
use Rattle.arithmetic.specs.Fraction.{Within}
use Rattle.arithmetic.proofs.Distance.{within_more}
use Rattle.exact.specs.Model.{exact_improvement}
use Rattle.exact.specs.Distance.{Demand3}
use Rattle.exact.proofs.Values.{quarters-more}
use Rattle.handed_out.specs.HandedOut.{FactorNear, RateNear, SurvivorsNear, ExpectationNear, AnnuityNear, HandedOut}
use Rattle.handed_out.proofs.Natural.{Natural, size_is}
use Rattle.handed_out.proofs.Answers.{factor-answer, rate-answer, survivorship-answer, expectation-answer, annuity-answer}

-- what holds of the number in an answer holds of the value that it stands for
back : (P : ℤ → Type 0) (work : Outcome ℤ) (v : ℤ) → work ≡ value v → Natural v → ((answer_of work).refusal.number ≡ 0 → P (pos (answer_of work).value)) → P v
back P work v e natural h = let g = rw e at h in rw (size_is v natural) at (g refl)

signed_back : (P : ℤ → Type 0) (work : Outcome ℤ) (v : ℤ) → work ≡ value v → ((signed_answer_of work).refusal.number ≡ 0 → P (signed_answer_of work).value) → P v
signed_back P work v e h = let g = rw e at h in g refl

annuity-back : (run history : List ℕ) → HandedOut run history → (kind : Kind) (age deferment year : ℕ) (a : ℤ) →
    annuity_enquiry run history kind age deferment year ≡ value a → AnnuityNear (basis_with run history) kind age deferment year a
annuity-back run history h kind age deferment year a answered =
    back (AnnuityNear (basis_with run history) kind age deferment year) (annuity_enquiry run history kind age deferment year) a answered
    (annuity-answer run history kind age deferment year a answered) (h.annuity kind age deferment year)

pub demand-3-again : (run history : List ℕ) → HandedOut run history → Demand3 run history
demand-3-again run history h =
    let b = basis_with run history in
    record {
      improvement = λ age year i answered.
          within_more (signed_back (λ v. Within v (exact_improvement b age year) 1) (improvement_enquiry run history age year) i answered (h.improvement age year)) (omega arith);
      factor = λ age year f answered improving.
          within_more (back (FactorNear b age year) (factor_enquiry run history age year) f answered (factor-answer run history age year f answered)
          (h.factor age year) improving) (omega arith);
      rate = λ age year q answered improving.
          within_more (back (RateNear b age year) (rate_enquiry run history age year) q answered (rate-answer run history age year q answered)
          (h.rate age year) improving) (omega arith);
      survivorship = λ kind age n year s answered improving.
          within_more
          (back (SurvivorsNear b kind age n year) (survivorship_enquiry run history kind age n year) s answered
          (survivorship-answer run history kind age n year s answered) (h.survivorship kind age n year) improving)
          (omega arith);
      expectation = λ kind age deferment year e answered improving.
          quarters-more
          (back (ExpectationNear b kind age deferment year) (expectation_enquiry run history kind age deferment year) e answered
          (expectation-answer run history kind age deferment year e answered) (h.expectation kind age deferment year) improving)
          (omega arith);
      annuity = λ sign kind age deferment year a answered improving.
          quarters-more ((annuity-back run history h kind age deferment year a answered).once sign improving) (omega arith);
      annuity_below_zero = λ sign kind age deferment year a answered improving.
          quarters-more ((annuity-back run history h kind age deferment year a answered).below_zero sign improving) (omega arith);
    }
