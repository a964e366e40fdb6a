-- What a step knows once its checks have passed, and the cases of a start and a step. From the laws of checks.
use mathlib.Core.Path.{◌≡◌, refl}
use mathlib.Core.Bool.{Bool, true, false, cond}
use mathlib.Core.List.{List}
use Prim.Native.Nat.{ℕ, ◌+◌, ◌≤◌}
use native.Mathlib.Omega.{arith}
use lib.ListN.{length}
use lib.Dec.{eqb, leb}
use lib.IntN.{ℤ, pos, nat_abs}
use borrow.Author.Tests.{leb-true}
use Rattle.arithmetic.specs.Fraction.{U}
use Rattle.outcome.specs.declared.Refusal.{Refusal}
use Rattle.outcome.specs.Outcome.{Finding, passed, refused_by, Outcome, value, refused, first_of}
use Rattle.outcome.proofs.Outcome.{unless-passed, both-passed}
use Rattle.basis.specs.Basis.{rated_from, Accepted}
use Rattle.basis.proofs.Rated.{rated-late}
use Rattle.history.specs.Checked.{Cell}
use Rattle.history.specs.History.{basis_with, run_and_history_check}
use Rattle.history.proofs.Acceptance.{accepted-workable}
use Rattle.history.proofs.With.{rated-with}
use Rattle.question.specs.Question.{in_range, age_check}
use Rattle.enquiry.specs.Enquiry.{valuation_check}
use Rattle.question.proofs.Passed.{in-range, age-passed}
use Rattle.survivorship.specs.Survivorship.{survivors_after_year}
use Rattle.lifeline.specs.declared.Position.{Position}
use Rattle.lifeline.specs.Said.{advanced, ended, Step}
use Rattle.lifeline.specs.Lifeline.{position_at, start_with, start_at, last_year_at, step_year_check, position_check, survivors_check, step_check}
use Rattle.lifeline.specs.Lifeline.{step_to, year_later, year_unless_ended, unless_refused, step_at}

step-year-passed : (first age year : ℕ) → step_year_check first age year ≡ passed → (first ≤ year) × (year ≤ last_year_at age)
unfolding step_year_check
step-year-passed first age year h = in-range first (last_year_at age) year (unless-passed (in_range first (last_year_at age) year) _ h)

survivors-passed : (size survivors : ℕ) → survivors_check size survivors ≡ passed → survivors ≤ U
unfolding survivors_check
survivors-passed size survivors h = leb-true survivors U (unless-passed (leb survivors U) _ h)

pub step-passed : (run history : List ℕ) (p : Position) → step_check run history p ≡ passed
    → Cell run history p.age p.year × (p.survivors ≤ U)
unfolding position_check
step-passed run history p h =
    let first = rated_from (basis_with run history) in
    let c = both-passed (run_and_history_check run history) (position_check (length run) first p) h in
    let q = both-passed (age_check p.age) (first_of (step_year_check first p.age p.year) (survivors_check (length run) p.survivors)) c.1 in
    let s = both-passed (step_year_check first p.age p.year) (survivors_check (length run) p.survivors) q.1 in
    let a = age-passed p.age q.0 in
    let y = step-year-passed first p.age p.year s.0 in
    let late = rated-late (basis_with run history) in
    let cell : Cell run history p.age p.year =
    record { usable = accepted-workable run history c.0; age_low = a.0; age_high = a.1; year_low = omega (arith, y.0, late); birth_high = y.1 } in
    (cell, survivors-passed (length run) p.survivors s.1)

-- what a step knows of its run and its numbers
pub step_accepted : (run history : List ℕ) → run_and_history_check run history ≡ passed → Accepted run
step_accepted run history h = (accepted-workable run history h).basis

pub step_limits : (run history : List ℕ) (p : Position) → step_check run history p ≡ passed
    → Cell run history p.age p.year × (p.survivors ≤ U) × (p.age ≤ 150) × (p.year ≤ 2260)
step_limits run history p h =
    let c = step-passed run history p h in
    let l = c.0.age_high in
    let b = c.0.birth_high in
    (c.0, c.1, l, omega arith)

pub ruleset step_rules = (step_accepted, step_limits, rated-with)

-- ---- the start
module _ (run history : List ℕ) (age year : ℕ) where
  pub start-passed : valuation_check run history age 0 year ≡ passed → start_at run history age year ≡ start_with (position_at age year U) passed
  unfolding start_at
  start-passed h = rw h refl

  pub start-refused : (r : Refusal) → valuation_check run history age 0 year ≡ refused_by r → start_at run history age year ≡ start_with (position_at 0 0 0) (refused_by r)
  unfolding start_at
  start-refused r h = rw h refl

-- ---- the step
module _ (run history : List ℕ) (p : Position) where
  -- the year's survivors
  abbrev after : Outcome ℤ
  after = survivors_after_year (basis_with run history) p.age p.year (pos p.survivors)

  -- the step by what its checks, the test for the end and the year come to
  abbrev pub step_by : Finding → Bool → Outcome ℤ → Step
  step_by c ends o = unless_refused p c (cond ends (step_to p (value ended)) (year_later p o))

  pub step-refused : (r : Refusal) → step_check run history p ≡ refused_by r → step_at run history p ≡ step_to p (refused r)
  unfolding step_at
  step-refused r h = rw h refl

  pub step-year : step_check run history p ≡ passed → eqb p.age 150 ≡ false → step_at run history p ≡ year_later p after
  unfolding step_at year_unless_ended
  step-year h e = rw (h, e) refl

  -- a step that advanced had passed its checks below age 150, and its year is answered
  pub step-advanced : (step_at run history p).says ≡ value advanced → (step_check run history p ≡ passed) × (eqb p.age 150 ≡ false)
      × ((t : ℤ) × (after ≡ value t) × (step_at run history p ≡ step_to (position_at (p.age + 1) (p.year + 1) (nat_abs t)) (value advanced)))
  unfolding step_at year_unless_ended
  step-advanced = by (step_check run history p) (eqb p.age 150) after
    where
      by : (c : Finding) (e : Bool) (o : Outcome ℤ) → (step_by c e o).says ≡ value advanced → (c ≡ passed) × (e ≡ false)
          × ((t : ℤ) × (o ≡ value t) × (step_by c e o ≡ step_to (position_at (p.age + 1) (p.year + 1) (nat_abs t)) (value advanced)))
      by passed false (value t) g = (refl, refl, (t, refl, refl))
      by passed false (refused r) g = let z : ◌≡◌ {A = ℕ} 0 1 = cc in absurd (omega arith)
      by passed true o g = let z : ◌≡◌ {A = ℕ} 0 1 = cc in absurd (omega arith)
      by (refused_by r) e o g = let z : ◌≡◌ {A = ℕ} 0 1 = cc in absurd (omega arith)
