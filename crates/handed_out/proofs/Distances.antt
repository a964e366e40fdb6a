-- Demand 3 of all that is handed out, put together from its parts. Assumes nothing.
use mathlib.Core.List.{List}
use Prim.Native.Nat.{ℕ}
use native.Mathlib.Omega.{arith}
use Rattle.arithmetic.proofs.Distance.{within_more}
use Rattle.history.specs.History.{basis_with}
use Rattle.enquiry.specs.Enquiry.{improvement_enquiry, factor_enquiry, rate_enquiry, survivorship_enquiry, expectation_enquiry, annuity_enquiry}
use Rattle.engine.proofs.Handed.{signed-value-handed}
use Rattle.exact.proofs.Demands.{demand-3}
use Rattle.exact.proofs.Values.{quarters-more}
use Rattle.refusals.proofs.Calls.{numbered-refusals}
use Rattle.handed_out.specs.HandedOut.{FactorNear, RateNear, SurvivorsNear, ExpectationNear, AnnuityNear, HandedOut}
use Rattle.handed_out.proofs.Answers.{handed, factor-answer, rate-answer, survivorship-answer, expectation-answer, annuity-answer, annuity-near}
use Rattle.handed_out.proofs.Sets.{record-near, set-near}
use Rattle.handed_out.proofs.Lifelines.{lifeline-near}

pub handed_out : (run history : List ℕ) → HandedOut run history
handed_out run history =
    let b = basis_with run history in
    let d = demand-3 run history in
    let n = numbered-refusals run history in
    record {
      improvement = λ age year none.
          within_more (d.improvement age year _ (signed-value-handed (improvement_enquiry run history age year) (n.improvement age year) none)) (omega arith);
      factor = λ age year. handed (FactorNear b age year) (factor_enquiry run history age year) (n.factor age year)
          (factor-answer run history age year) (λ f h improving. within_more (d.factor age year f h improving) (omega arith));
      rate = λ age year. handed (RateNear b age year) (rate_enquiry run history age year) (n.rate age year) (rate-answer run history age year)
          (λ q h improving. within_more (d.rate age year q h improving) (omega arith));
      survivorship = λ kind age k year.
          handed (SurvivorsNear b kind age k year) (survivorship_enquiry run history kind age k year) (n.survivorship kind age k year)
          (survivorship-answer run history kind age k year)
          (λ s h improving. within_more (d.survivorship kind age k year s h improving) (omega arith));
      expectation = λ kind age deferment year.
          handed (ExpectationNear b kind age deferment year) (expectation_enquiry run history kind age deferment year)
          (n.expectation kind age deferment year) (expectation-answer run history kind age deferment year)
          (λ e h improving. quarters-more (d.expectation kind age deferment year e h improving) (omega arith));
      annuity = λ kind age deferment year.
          handed (AnnuityNear b kind age deferment year) (annuity_enquiry run history kind age deferment year) (n.annuity kind age deferment year)
          (annuity-answer run history kind age deferment year) (annuity-near run history kind age deferment year);
      grid_record = record-near run history;
      small_set_point = set-near run history;
      lifeline = λ age year k. lifeline-near run history age year k;
    }
