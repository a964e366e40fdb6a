-- Demand 3 for every data run and history: an answered enquiry has passed its checks, so these are accepted and its age and years are
-- in range; the distances over the basis do the rest. Assumes nothing.
use mathlib.Core.Path.{◌≡◌}
use mathlib.Core.List.{List}
use Prim.Native.Nat.{ℕ, ◌+◌, ◌*◌, ◌-◌, ◌≤◌, ◌<◌}
use native.Mathlib.Omega.{arith}
use lib.IntN.{ℤ}
use Rattle.basis.proofs.Rated.{rated-late}
use Rattle.arithmetic.proofs.Distance.{within_more}
use Rattle.basis.specs.Basis.{Basis, Limited, rated_from}
use Rattle.history.specs.History.{basis_with, run_and_history_check}
use Rattle.history.proofs.With.{limits-with}
use Rattle.outcome.specs.Outcome.{value, first_of}
use Rattle.outcome.proofs.Outcome.{checked_value}
use Rattle.improvement.specs.Improvement.{first_year, improvement_of, improvement_needed}
use Rattle.improvement.proofs.Cases.{first-late, needed-value}
use Rattle.projection.specs.Projection.{years_to, factor_of, rate_of}
use Rattle.survivorship.specs.Survivorship.{year_on, survivors_of}
use Rattle.survivorship.specs.declared.Kind.{Kind}
use Rattle.valuation.specs.Valuation.{expectation_of, annuity_of}
use Rattle.question.specs.Question.{cell_check}
use Rattle.enquiry.specs.Enquiry.{valuation_check, improvement_enquiry, factor_enquiry, rate_enquiry, survivorship_enquiry, expectation_enquiry, annuity_enquiry}
use Rattle.enquiry.proofs.Passed.{cell-passed, improved-passed, valuation-passed}
use Rattle.exact.specs.Model.{exact_annuity}
use Rattle.exact.specs.Distance.{ImprovingOver, largest_years, rate_distance, annuity_distance, WithinQuarters, Demand3}
use Rattle.exact.proofs.LimitedLife.{of-cell, of-life}
use Rattle.exact.proofs.Improvement.{improvement-within}
use Rattle.exact.proofs.Factor.{factor-within, rate-within}
use Rattle.exact.proofs.Survivors.{survived}
use Rattle.exact.proofs.Discount.{Discounted, discounted, discounted-below-zero}
use Rattle.exact.proofs.Values.{quarters-more, expectation-within, annuity-within}
use Rattle.exact.proofs.Largest.{largest-most}

-- no rate used is further than r at K
largest-distance : (b : Basis) (kind : Kind) (year n j : ℕ) → j < n → rate_distance b (years_to b (year_on kind j year)) ≤ rate_distance b (largest_years b kind n year)
largest-distance b kind year n j l = omega (arith, largest-most (λ j. years_to b (year_on kind j year)) n j l)

-- an answered annuity, w times the distances
annuity-answered : (run history : List ℕ) (w : ℕ) → 1 ≤ w → (Limited (basis_with run history) → (j : ℕ) → j ≤ 130 → Discounted (basis_with run history) w j) →
    (kind : Kind) (age deferment year : ℕ) (a : ℤ) → annuity_enquiry run history kind age deferment year ≡ value a →
    let N = 150 - age in
    let K = largest_years (basis_with run history) kind N year in
    ImprovingOver (basis_with run history) kind age N year →
    WithinQuarters a (exact_annuity (basis_with run history) kind age deferment year) (w * annuity_distance N (rate_distance (basis_with run history) K))
unfolding annuity_enquiry
annuity-answered run history w once worth kind age deferment year a answered improving =
    let b = basis_with run history in
    let N = 150 - age in
    let h = checked_value (valuation_check run history age deferment year) (annuity_of b kind age deferment year) a answered in
    let p = valuation-passed run history age deferment year h.0 in
    annuity-within b kind age deferment year (rate_distance b (largest_years b kind N year)) (of-life p) improving
    (largest-distance b kind year N) w once (worth (limits-with p.usable)) a h.1

pub demand-3 : (run history : List ℕ) → Demand3 run history
unfolding improvement_enquiry factor_enquiry rate_enquiry survivorship_enquiry expectation_enquiry
demand-3 run history =
    let b = basis_with run history in
    record {
      improvement = λ age year i answered.
          let h = checked_value (first_of (run_and_history_check run history) (cell_check (first_year b) age year)) (improvement_needed age year (improvement_of b age year)) i answered in
          let p = improved-passed run history age year h.0 in
          let limits = limits-with p.usable in
          let first = first-late b limits.foundation_low limits.base_low in
          let by_age = limits.by_age age p.age_low p.age_high in
          let by_birth_year = limits.by_birth_year (year - age) (omega (arith, first, p.age_high, p.year_low)) (omega (arith, p.birth_high)) in
          let near = improvement-within b age year by_age.period_low by_birth_year.period_low in
          rw (← needed-value age year (improvement_of b age year) i h.1) (within_more near (omega arith));
      factor = λ age year f answered improving.
          let h = checked_value (first_of (run_and_history_check run history) (cell_check b.base age year)) (factor_of b age year) f answered in
          let p = cell-passed run history b.base age year (omega arith) h.0 in
          within_more (factor-within b age year (of-cell p) improving f h.1) (omega arith);
      rate = λ age year q answered improving.
          let h = checked_value (first_of (run_and_history_check run history) (cell_check (rated_from b) age year)) (rate_of b age year) q answered in
          let p = cell-passed run history (rated_from b) age year (rated-late b) h.0 in
          within_more (rate-within b age year (of-cell p) improving q h.1) (omega arith);
      survivorship = λ kind age n year s answered improving.
          let h = checked_value (valuation_check run history age n year) (survivors_of b kind age n year) s answered in
          let p = valuation-passed run history age n year h.0 in
          let r = rate_distance b (largest_years b kind n year) in
          within_more (survived b kind age year r n (of-life p) improving (largest-distance b kind year n) s h.1).near (omega arith);
      expectation = λ kind age deferment year e answered improving.
          let h = checked_value (valuation_check run history age deferment year) (expectation_of b kind age deferment year) e answered in
          let p = valuation-passed run history age deferment year h.0 in
          let N = 150 - age - deferment in
          quarters-more
          (expectation-within b kind age deferment year (rate_distance b (largest_years b kind N (year + deferment))) (of-life p) improving
          (largest-distance b kind (year + deferment) N) e h.1)
          (omega arith);
      annuity = λ sign kind age deferment year a answered improving.
          quarters-more (annuity-answered run history 1 (omega arith) (λ limits. discounted b limits sign) kind age deferment year a answered improving) (omega arith);
      annuity_below_zero = λ sign kind age deferment year a answered improving.
          quarters-more (annuity-answered run history 4 (omega arith) (λ limits. discounted-below-zero b limits sign) kind age deferment year a answered improving) (omega arith);
    }
