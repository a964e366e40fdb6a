-- No number but 6 to 10: by the laws of what refuses by numbers of a list. Assumes nothing.
use mathlib.Core.Path.{refl}
use Prim.Native.Nat.{ℕ, ◌+◌}
use lib.Dec.{leb}
use Rattle.outcome.specs.Refusals.{record_numbers, is_listed, RefusesBy}
use Rattle.outcome.proofs.Refusals.{unless-by, first_by}
use Rattle.question.specs.Question.{in_range, age_check, deferment_check, year_check, cell_check, question_check}

pub age-numbered : (age : ℕ) → RefusesBy record_numbers (age_check age)
unfolding age_check record_numbers is_listed
age-numbered age = unless-by (in_range 20 150 age) _ refl

deferment-numbered : (age deferment : ℕ) → RefusesBy record_numbers (deferment_check age deferment)
unfolding deferment_check record_numbers is_listed
deferment-numbered age deferment = unless-by (leb (age + deferment) 150) _ refl

year-numbered : (first year : ℕ) → RefusesBy record_numbers (year_check first year)
unfolding year_check record_numbers is_listed
year-numbered first year = unless-by (in_range first 2130 year) _ refl

pub cell-numbered : (first age year : ℕ) → RefusesBy record_numbers (cell_check first age year)
cell-numbered first age year = first_by (age-numbered age) (year-numbered first year)

pub question-numbered : (base age deferment year : ℕ) → RefusesBy record_numbers (question_check base age deferment year)
unfolding question_check
question-numbered base age deferment year = first_by (age-numbered age) (first_by (deferment-numbered age deferment) (year-numbered base year))
