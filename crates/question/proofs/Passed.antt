-- What is known of a question once its checks have passed: all that the work asks for. From the laws of checks.
use mathlib.Core.Path.{◌≡◌, refl}
use mathlib.Core.Bool.{Bool, true, false, ◌&&◌}
use mathlib.Core.List.{List}
use Prim.Native.Nat.{ℕ, ◌+◌, ◌≤◌}
use native.Mathlib.Omega.{arith}
use lib.Dec.{leb}
use borrow.Author.Tests.{leb-true}
use Rattle.basis.proofs.Rated.{rated-late}
use Rattle.basis.specs.Basis.{rated_from}
use Rattle.history.specs.Checked.{Life}
use Rattle.history.specs.History.{basis_with, Workable}
use Rattle.outcome.specs.Outcome.{passed, first_of}
use Rattle.outcome.proofs.Outcome.{unless-passed, both-passed}
use Rattle.question.specs.Question.{in_range, age_check, deferment_check, year_check, cell_check, question_check}

pub in-range : (low high n : ℕ) → in_range low high n ≡ true → (low ≤ n) × (n ≤ high)
in-range low high n h = by (leb low n) refl (leb n high) refl h
  where
    by : (s : Bool) → leb low n ≡ s → (t : Bool) → leb n high ≡ t → (s && t) ≡ true → (low ≤ n) × (n ≤ high)
    by true e true g k = (leb-true low n e, leb-true n high g)
    by true e false g k = let z : ◌≡◌ {A = ℕ} 0 1 = cc in absurd (omega arith)
    by false e t g k = let z : ◌≡◌ {A = ℕ} 0 1 = cc in absurd (omega arith)

-- ---- one check
pub age-passed : (age : ℕ) → age_check age ≡ passed → (20 ≤ age) × (age ≤ 150)
unfolding age_check
age-passed age h = in-range 20 150 age (unless-passed (in_range 20 150 age) _ h)

deferment-passed : (age deferment : ℕ) → deferment_check age deferment ≡ passed → age + deferment ≤ 150
unfolding deferment_check
deferment-passed age deferment h = leb-true (age + deferment) 150 (unless-passed (leb (age + deferment) 150) _ h)

pub year-passed : (first year : ℕ) → year_check first year ≡ passed → (first ≤ year) × (year ≤ 2130)
unfolding year_check
year-passed first year h = in-range first 2130 year (unless-passed (in_range first 2130 year) _ h)

-- ---- all of them
pub cell-passed : (first age year : ℕ) → cell_check first age year ≡ passed → (20 ≤ age) × (age ≤ 150) × (first ≤ year) × (year ≤ 2130)
cell-passed first age year h =
    let p = both-passed (age_check age) (year_check first year) h in
    let a = age-passed age p.0 in
    let y = year-passed first year p.1 in
    (a.0, a.1, y.0, y.1)

-- each of the three
pub question-parts : (first age deferment year : ℕ) → question_check first age deferment year ≡ passed
    → (age_check age ≡ passed) × (deferment_check age deferment ≡ passed) × (year_check first year ≡ passed)
unfolding question_check
question-parts first age deferment year h =
    let p = both-passed (age_check age) (first_of (deferment_check age deferment) (year_check first year)) h in
    let q = both-passed (deferment_check age deferment) (year_check first year) p.1 in
    (p.0, q.0, q.1)

-- a question that passed on a basis and history that may be worked with asks about a life
pub question-passed : (run history : List ℕ) (age deferment year : ℕ) → Workable run history
    → question_check (rated_from (basis_with run history)) age deferment year ≡ passed → Life run history age deferment year
question-passed run history age deferment year usable h =
    let b = basis_with run history in
    let p = question-parts (rated_from b) age deferment year h in
    let y = year-passed (rated_from b) year p.2 in
    record {
      usable = usable;
      age_low = (age-passed age p.0).0;
      age_high = deferment-passed age deferment p.1;
      year_low = omega (arith, rated-late b, y.0);
      year_high = y.1;
    }
