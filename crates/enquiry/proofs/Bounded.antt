-- An answered annuity is at most 131 payments of 4 × U, on every data run and history. Assumes nothing.
use mathlib.Core.Path.{◌≡◌}
use mathlib.Core.List.{List}
use Prim.Native.Nat.{ℕ, ◌≤◌}
use native.Mathlib.Omega.{arith}
use lib.IntN.{ℤ, pos}
use Rattle.outcome.specs.Outcome.{value}
use Rattle.outcome.proofs.Outcome.{checked_value}
use Rattle.history.specs.History.{basis_with}
use Rattle.history.proofs.With.{limits-with}
use Rattle.survivorship.specs.declared.Kind.{Kind}
use Rattle.valuation.specs.Valuation.{annuity_of}
use Rattle.valuation.proofs.Bounded.{annuity-small}
use Rattle.enquiry.specs.Enquiry.{valuation_check, annuity_enquiry}
use Rattle.enquiry.proofs.Passed.{valuation-passed}

pub annuity-bounded : (run history : List ℕ) (kind : Kind) (age deferment year : ℕ) (a : ℤ) → annuity_enquiry run history kind age deferment year ≡ value a
    → (n : ℕ) × (a ≡ pos n) × (n ≤ 524_000_000_000)
unfolding annuity_enquiry
annuity-bounded run history kind age deferment year a answered =
    let b = basis_with run history in
    let h = checked_value (valuation_check run history age deferment year) (annuity_of b kind age deferment year) a answered in
    let p = valuation-passed run history age deferment year h.0 in
    annuity-small b (limits-with p.usable) kind age deferment year a p.age_low (omega arith) h.1
