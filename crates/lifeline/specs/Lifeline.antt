-- A lifeline (01, "A lifeline reader holds the lent data run with an age, a year and the survivors"): the survivors of one cohort,
-- year by year. The trade's word for its survivors is cohort survivorship.
use Rattle.std.specs.Prelude.{ℕ, zero, suc, ◌+◌, cond, List, length, eqb, leb, ℤ, pos, nat_abs}
use Rattle.arithmetic.specs.Fraction.{U}
use Rattle.basis.specs.Basis.{Basis, rated_from}
use Rattle.history.specs.History.{basis_with, run_and_history_check}
use Rattle.outcome.specs.Outcome.{Finding, passed, refused_by, Outcome, value, refused, refusal, unless, first_of}
use Rattle.question.specs.Question.{in_range, age_check}
use Rattle.enquiry.specs.Enquiry.{valuation_check}
use Rattle.survivorship.specs.Survivorship.{survivors_after_year}
use Rattle.lifeline.specs.declared.Position.{Position}
use Rattle.lifeline.specs.Said.{Start, Said, advanced, ended, Step}

abbrev pub position_at : ℕ → ℕ → ℕ → Position
position_at age year survivors = record { age = age; year = year; survivors = survivors }

-- ---- the start
abbrev pub start_with : Position → Finding → Start
start_with p check = record { position = p; check = check }

-- it starts with U at an age and year; a refused start holds age, year and survivors 0
abbrev pub start_unless_refused : ℕ → ℕ → Finding → Start
start_unless_refused age year passed = start_with (position_at age year U) passed
start_unless_refused age year (refused_by r) = start_with (position_at 0 0 0) (refused_by r)

-- checked as an enquiry with deferment 0
unfoldable pub start_at : List ℕ → List ℕ → ℕ → ℕ → Start
start_at run history age year = start_unless_refused age year (valuation_check run history age 0 year)

-- ---- what a step checks again, in its own order
-- the last year at an age: that of the birth year 2110
abbrev pub last_year_at : ℕ → ℕ
last_year_at age = 2110 + age

-- 7: before the first year of a rate, or year − age after 2110; a year after 2130 may stand
unfoldable pub step_year_check : ℕ → ℕ → ℕ → Finding
step_year_check first age year = unless (in_range first (last_year_at age) year) (refusal 7 year 0)

-- 5: survivors above U, places the length of the data run and 0
unfoldable pub survivors_check : ℕ → ℕ → Finding
survivors_check size survivors = unless (leb survivors U) (refusal 5 size 0)

-- the age (6), the year, then the survivors
unfoldable pub position_check : ℕ → ℕ → Position → Finding
position_check size first p = first_of (age_check p.age) (first_of (step_year_check first p.age p.year) (survivors_check size p.survivors))

-- first of all the data run, and directly after it the history
abbrev pub step_check : List ℕ → List ℕ → Position → Finding
step_check run history p = first_of (run_and_history_check run history) (position_check (length run) (rated_from (basis_with run history)) p)

-- ---- the step
abbrev pub step_to : Position → Outcome Said → Step
step_to p says = record { position = p; says = says }

-- a year on with its survivors, which are never below zero; refused, it is left unchanged
abbrev pub year_later : Position → Outcome ℤ → Step
year_later p (value s) = step_to (position_at (p.age + 1) (p.year + 1) (nat_abs s)) (value advanced)
year_later p (refused r) = step_to p (refused r)

-- at age 150 it says ended, and is left unchanged; else one year of cohort survivorship
unfoldable pub year_unless_ended : Basis → Position → Step
year_unless_ended b p =
    cond (eqb p.age 150) (step_to p (value ended)) (year_later p (survivors_after_year b p.age p.year (pos p.survivors)))

-- a refused step leaves it unchanged
abbrev pub unless_refused : Position → Finding → Step → Step
unless_refused p passed s = s
unless_refused p (refused_by r) s = step_to p (refused r)

unfoldable pub step_at : List ℕ → List ℕ → Position → Step
step_at run history p = unless_refused p (step_check run history p) (year_unless_ended (basis_with run history) p)

-- ---- its position n steps after its start, with the same history lent each time
unfoldable pub position_after : List ℕ → List ℕ → ℕ → ℕ → ℕ → Position
position_after run history age year zero = (start_at run history age year).position
position_after run history age year (suc n) = (step_at run history (position_after run history age year n)).position
