-- The distances of demand 3 (01, "Distances from the exact model"; 02, change 3): for every data run and history, of every enquiry that is answered.
use Rattle.std.specs.Prelude.{◌≡◌, cond, List, ℕ, zero, suc, ◌+◌, ◌*◌, ◌-◌, ◌≤◌, ◌<◌, ltb, ℤ, pos, nat_abs, ◌-ℤ◌, ◌*ℤ◌, ◌≤ℤ◌, ◌<ℤ◌}
use Rattle.arithmetic.specs.Fraction.{Fraction, Within}
use Rattle.basis.specs.Basis.{Basis}
use Rattle.history.specs.History.{basis_with}
use Rattle.outcome.specs.Outcome.{value}
use Rattle.projection.specs.Projection.{years_to}
use Rattle.survivorship.specs.Survivorship.{year_on}
use Rattle.enquiry.specs.Enquiry.{improvement_enquiry, factor_enquiry, rate_enquiry, survivorship_enquiry, expectation_enquiry, annuity_enquiry}
use Rattle.survivorship.specs.declared.Kind.{Kind}
use Rattle.exact.specs.Model.{exact_improvement, exact_factor, exact_rate, exact_survivors, exact_expectation, exact_annuity}

-- ---- the premise: no exact improvement taken into the answer is below zero
abbrev pub NotBelowZero : Fraction → Type 0
NotBelowZero q = pos 0 ≤ℤ q.num

-- those that enter the exact factor at an age in a year: from B + 1 to the year, the actual ones among them
abbrev pub Improving : Basis → ℕ → ℕ → Type 0
Improving b age year = (t : ℕ) → b.base < t → t ≤ year → NotBelowZero (exact_improvement b age t)

-- those that enter the rates of n years of survivorship
abbrev pub ImprovingOver : Basis → Kind → ℕ → ℕ → ℕ → Type 0
ImprovingOver b kind age n year = (j : ℕ) → j < n → Improving b (age + j) (year_on kind j year)

-- ---- K is the largest k among the rates used, 0 if none
unfoldable pub largest : (ℕ → ℕ) → ℕ → ℕ
largest k zero = 0
largest k (suc n) = cond (ltb (largest k n) (k n)) (k n) (largest k n)

-- of n years of survivorship
abbrev pub largest_years : Basis → Kind → ℕ → ℕ → ℕ
largest_years b kind n year = largest (λ j. years_to b (year_on kind j year)) n

-- ---- the distances, by r: a rate is within r halves of a unit of the exact one, and the later ones follow by the same sums, with r at K
-- rate 2d ≤ 2k + 1, on any basis
abbrev pub rate_distance : Basis → ℕ → ℕ
rate_distance b k = 2 * k + 1

-- survivorship after n years 2d ≤ n(r + 1), which is 2n(K + 1)
abbrev pub survivors_distance : ℕ → ℕ → ℕ
survivors_distance n r = n * (r + 1)

-- expectation 4d ≤ N(N + 1)(r + 1), which is 2N(N + 1)(K + 1)
abbrev pub expectation_distance : ℕ → ℕ → ℕ
expectation_distance N r = N * (N + 1) * (r + 1)

-- annuity 4d ≤ (N + 1)(N(r + 2) + 2), which is (N + 1)(N(2K + 3) + 2)
abbrev pub annuity_distance : ℕ → ℕ → ℕ
annuity_distance N r = (N + 1) * (N * (r + 2) + 2)

-- ---- v is at most m quarters of a unit from q: 4 |v − q| ≤ m, with the denominator multiplied out
pub record WithinQuarters (v : ℤ) (q : Fraction) (m : ℕ) : Type 0 where
  pub proper : 0 < q.den
  pub near : 4 * nat_abs (v *ℤ pos q.den -ℤ q.num) ≤ m * q.den

-- ---- Demand 3: where the engine answers; all but the first have the premise
pub record Demand3 (run history : List ℕ) : Type 0 where
  -- improvement 2d ≤ 1, whatever the exact ones are
  pub improvement : (age year : ℕ) (i : ℤ) → improvement_enquiry run history age year ≡ value i → Within i (exact_improvement (basis_with run history) age year) 1
  -- factor 2d ≤ 2k
  pub factor : (age year : ℕ) (f : ℤ) → factor_enquiry run history age year ≡ value f → Improving (basis_with run history) age year →
      Within f (exact_factor (basis_with run history) age year) (2 * years_to (basis_with run history) year)
  -- rate 2d ≤ 2k + 1
  pub rate : (age year : ℕ) (q : ℤ) → rate_enquiry run history age year ≡ value q → Improving (basis_with run history) age year →
      Within q (exact_rate (basis_with run history) age year) (rate_distance (basis_with run history) (years_to (basis_with run history) year))
  -- survivorship after n years 2d ≤ 2n(K + 1)
  pub survivorship : (kind : Kind) (age n year : ℕ) (s : ℤ) → survivorship_enquiry run history kind age n year ≡ value s →
      ImprovingOver (basis_with run history) kind age n year →
      let K = largest_years (basis_with run history) kind n year in
      Within s (exact_survivors (basis_with run history) kind age n year) (survivors_distance n (rate_distance (basis_with run history) K))
  -- expectation 4d ≤ 2N(N + 1)(K + 1), N = 150 − age − deferment
  pub expectation : (kind : Kind) (age deferment year : ℕ) (e : ℤ) → expectation_enquiry run history kind age deferment year ≡ value e →
      let N = 150 - age - deferment in
      let K = largest_years (basis_with run history) kind N (year + deferment) in
      ImprovingOver (basis_with run history) kind (age + deferment) N (year + deferment) →
      WithinQuarters e (exact_expectation (basis_with run history) kind age deferment year) (expectation_distance N (rate_distance (basis_with run history) K))
  -- annuity 4d ≤ (N + 1)(N(2K + 3) + 2), N = 150 − age, where the rate of discount is not below zero
  pub annuity : pos 0 ≤ℤ (basis_with run history).discount →
      (kind : Kind) (age deferment year : ℕ) (a : ℤ) → annuity_enquiry run history kind age deferment year ≡ value a →
      let N = 150 - age in
      let K = largest_years (basis_with run history) kind N year in
      ImprovingOver (basis_with run history) kind age N year →
      WithinQuarters a (exact_annuity (basis_with run history) kind age deferment year) (annuity_distance N (rate_distance (basis_with run history) K))
  -- where it is below zero, at most four times that (02, change 1)
  pub annuity_below_zero : (basis_with run history).discount <ℤ pos 0 →
      (kind : Kind) (age deferment year : ℕ) (a : ℤ) → annuity_enquiry run history kind age deferment year ≡ value a →
      let N = 150 - age in
      let K = largest_years (basis_with run history) kind N year in
      ImprovingOver (basis_with run history) kind age N year →
      WithinQuarters a (exact_annuity (basis_with run history) kind age deferment year) (4 * annuity_distance N (rate_distance (basis_with run history) K))
