-- No number but those of the papers' list: by the laws of what refuses by numbers of a list. Assumes nothing.
use mathlib.Core.Path.{refl}
use Prim.Native.Nat.{ℕ}
use lib.Dec.{leb}
use Rattle.arithmetic.specs.Fraction.{U}
use Rattle.outcome.specs.Refusals.{numbers, is_listed, RefusesBy}
use Rattle.outcome.proofs.Refusals.{unless-by, first_by, check-among, record-numbers}
use Rattle.question.specs.Question.{in_range}
use Rattle.question.proofs.Numbered.{age-numbered}
use Rattle.lifeline.specs.declared.Position.{Position}
use Rattle.lifeline.specs.Lifeline.{last_year_at, step_year_check, survivors_check, position_check}

step-year-numbered : (first age year : ℕ) → RefusesBy numbers (step_year_check first age year)
unfolding step_year_check numbers is_listed
step-year-numbered first age year = unless-by (in_range first (last_year_at age) year) _ refl

survivors-numbered : (size survivors : ℕ) → RefusesBy numbers (survivors_check size survivors)
unfolding survivors_check numbers is_listed
survivors-numbered size survivors = unless-by (leb survivors U) _ refl

pub position-numbered : (size first : ℕ) (p : Position) → RefusesBy numbers (position_check size first p)
unfolding position_check
position-numbered size first p =
    first_by (check-among record-numbers (age-numbered p.age)) (first_by (step-year-numbered first p.age p.year) (survivors-numbered size p.survivors))
