-- The three demands in one place, in the papers' words: the page to open first. Each is a record over a data run and its history, which are
-- any bytes at all, and each field is a theorem. They speak of the definitions that the contracts cite: each function of crates/engine answers
-- with one of them, and always returns, which is what the checker accepts of its code. `demands-met` in proofs/ proves them.
use Rattle.std.specs.Prelude.{◌≡◌, List, [], ◌∷◌, ◌++◌, ℕ, ◌^◌, ◌≤◌, ◌<◌, ℤ, pos, nat_abs, length}
use Rattle.arithmetic.specs.Rounding.{TiesGoUp}
use Rattle.layout.specs.Printed.{Printed}
use Rattle.lent.specs.Lent.{written}
use Rattle.outcome.specs.declared.Refusal.{Refusal}
use Rattle.basis.specs.Basis.{Accepted, rated_from}
use Rattle.basis.specs.declared.Convergence.{Convergence}
use Rattle.outcome.specs.Outcome.{passed, refused_by, value, refused, first_of, and_then}
use Rattle.run_check.specs.Run.{run_check}
use Rattle.basis_file.specs.File.{run_in, file_of, read_check, write_check}
use Rattle.basis_file.specs.RoundTrips.{RoundTrips}
use Rattle.history.specs.History.{basis_with, run_and_history_check}
use Rattle.history.specs.Accepted.{HistoryAcceptance}
use Rattle.old_form.specs.OldForm.{write_old_check, old_file_of, Forms}
use Rattle.short_form.specs.ShortForm.{short_form_of, short_check, ShortFormStands, PeriodByAge}
use Rattle.component.specs.PerCent.{WeightInPerCent}
use Rattle.improvement.specs.Improvement.{first_year, improvement_of, improvement_needed}
use Rattle.improvement.specs.Answered.{Edges, ActualAnswered}
use Rattle.improvement.specs.OneRounding.{OneRounding}
use Rattle.improvement.specs.LongTerm.{LongTermFrom2130}
use Rattle.projection.specs.Projection.{factor_of, rate_of}
use Rattle.sweep.specs.EachStep.{EachStep}
use Rattle.sweep.specs.Fixed.{EncodingIsFixed}
use Rattle.survivorship.specs.declared.Kind.{Kind}
use Rattle.survivorship.specs.declared.Kind.TheVariants.{Cohort}
use Rattle.survivorship.specs.Survivorship.{survivors_of}
use Rattle.valuation.specs.Valuation.{expectation_of, annuity_of}
use Rattle.factor_table.specs.Fixed.{FactorTableIsFixed}
use Rattle.question.specs.Question.{cell_check, question_check}
use Rattle.enquiry.specs.Enquiry.{valuation_check, improvement_enquiry, factor_enquiry, rate_enquiry, survivorship_enquiry, expectation_enquiry, annuity_enquiry}
use Rattle.question.specs.declared.Question.{Question}
use Rattle.model_points.specs.Point.{results_of, no_results, point_answer_of, point_of}
use Rattle.small_set.specs.declared.Questions.{Questions}
use Rattle.small_set.specs.SmallSet.{small_set_of}
use Rattle.grid_record.specs.declared.Point.{Point}
use Rattle.grid_record.specs.Record.{question_of, record_of, answered_of}
use Rattle.grid.specs.Grid.{grid_check, grid_of}
use Rattle.lifeline.specs.declared.Position.{Position}
use Rattle.lifeline.specs.Lifeline.{start_at, step_at}
use Rattle.lifeline.specs.Survivorship.{IsCohortSurvivorship}
use Rattle.roll.specs.Roll.{join_check, liability_of, liability_on, liability_joining, Call, after_call, members_after, total_of}
use Rattle.roll.specs.Kept.{roll_check, numbers_in, opened_roll, joined_roll, left_roll, total_said, roll_by, roll_after}
use Rattle.roll.specs.Totals.{RunningTotal, FurtherKept}
use Rattle.enquiry_text.specs.Said.{LineSays}
use Rattle.both_forms.specs.SameAnswers.{BothForms}
use Rattle.figures.specs.Figures.{FiguresHold, AfterLastCellHold}
use Rattle.later_years.specs.LaterYears.{EachLaterYear}
use Rattle.later_years.specs.BirthYears.{NoneAfter2110}
use Rattle.engine.specs.Enquiry.{answer_of}
use Rattle.refusals.specs.Numbered.{work_on, NumberedRefusals, ZeroIsNone}
use Rattle.exact.specs.Distance.{Demand3}
use Rattle.exact.specs.Sharp.{DistancesAreSharp}
use Rattle.handed_out.specs.HandedOut.{HandedOut}

-- ---- Demand 1
-- a basis or a history that is refused is refused by every call that is lent it, and always by the same refusal
pub record RefusedThroughout (run history : List ℕ) (r : Refusal) : Type 0 where
  pub improvement : (age year : ℕ) → improvement_enquiry run history age year ≡ refused r
  pub factor : (age year : ℕ) → factor_enquiry run history age year ≡ refused r
  pub rate : (age year : ℕ) → rate_enquiry run history age year ≡ refused r
  pub survivorship : (kind : Kind) (age deferment year : ℕ) → survivorship_enquiry run history kind age deferment year ≡ refused r
  pub expectation : (kind : Kind) (age deferment year : ℕ) → expectation_enquiry run history kind age deferment year ≡ refused r
  pub annuity : (kind : Kind) (age deferment year : ℕ) → annuity_enquiry run history kind age deferment year ≡ refused r
  pub small_set : (questions : Questions) → (small_set_of run history questions).refusal ≡ r
  pub grid : (count : ℕ) → 119 ≤ count → grid_check run history count ≡ refused_by r
  pub start : (age year : ℕ) → (start_at run history age year).check ≡ refused_by r
  pub step : (p : Position) → (step_at run history p).says ≡ refused r
  -- a join comes to its basis once the list's room and the roll's own refusals are passed (02, change 6)
  pub join : (roll : List ℕ) (number age pension : ℕ) → first_of (roll_check roll) (join_check (numbers_in roll) number pension) ≡ passed →
      joined_roll roll run history number age pension ≡ refused r

pub record Demand1 (run history : List ℕ) : Type 0 where
  -- "Every call ends with a value or a numbered refusal"
  pub numbered : NumberedRefusals run history
  pub zero_is_none : ZeroIsNone
  -- "checks all it is given"
  pub checked : (r : Refusal) → run_and_history_check run history ≡ refused_by r → RefusedThroughout run history r
  -- "and on a refusal writes no byte of lent output": reading, writing in its own form and in the old one, the short form, the grid; and a lifeline is left unchanged
  pub read_unchanged : (file out : List ℕ) (r : Refusal) → read_check file out ≡ refused_by r → written (read_check file out) (run_in file) out ≡ out
  pub write_unchanged : (out : List ℕ) (r : Refusal) → write_check run out ≡ refused_by r → written (write_check run out) (file_of run) out ≡ out
  pub short_form_unchanged : (rate : ℤ) (out : List ℕ) (r : Refusal) → short_check run rate out ≡ refused_by r
      → written (short_check run rate out) (short_form_of run rate) out ≡ out
  pub old_form_unchanged : (out : List ℕ) (r : Refusal) → write_old_check run out ≡ refused_by r → written (write_old_check run out) (old_file_of run) out ≡ out
  pub grid_unchanged : (points : List Point) (r : Refusal) → grid_check run history (length points) ≡ refused_by r → grid_of run history points ≡ points
  pub lifeline_unchanged : (p : Position) (r : Refusal) → (step_at run history p).says ≡ refused r → (step_at run history p).position ≡ p
  -- "A refused call leaves the roll unchanged" (02, change 6), whatever stands in the list
  pub open_unchanged : (year : ℕ) (roll : List ℕ) (r : Refusal) → opened_roll year roll ≡ refused r → after_call roll (opened_roll year roll) ≡ roll
  pub join_unchanged : (roll : List ℕ) (number age pension : ℕ) (r : Refusal) → joined_roll roll run history number age pension ≡ refused r →
      after_call roll (joined_roll roll run history number age pension) ≡ roll
  pub leave_unchanged : (roll : List ℕ) (number : ℕ) (r : Refusal) → left_roll roll number ≡ refused r → after_call roll (left_roll roll number) ≡ roll
  -- "A grid point that cannot be worked out carries its own refusal": with all four results 0, and its question unchanged
  pub own_refusal : (p : Point) (r : Refusal) → work_on (basis_with run history) (question_of p) ≡ refused r →
      answered_of (basis_with run history) p ≡ record_of p (record { results = no_results; refusal = r })

-- ---- Demand 2
pub record Demand2 (run history : List ℕ) : Type 0 where
  -- the offsets and lengths of a data run and a file are those of 01's table, and of 02, change 7
  pub offsets : Printed
  -- "Outside the refusal conditions every enquiry is answered": 1, 4 and 5 refuse every run that is not accepted, and no other
  pub run_accepted : run_check run ≡ passed → Accepted run
  pub accepted_run : Accepted run → run_check run ≡ passed
  -- 13 and 2 to 5 every history that is not (02, change 2), and no actual improvement is refused by 9
  pub history_accepted : HistoryAcceptance
  pub actual_answered : ActualAnswered run history
  -- 9 begins half a unit beyond its limits
  pub edges : Edges
  -- 12 refuses every line but the questions as they are printed
  pub lines : LineSays
  -- "with exactly the number of the model under the paper's rounding rules": after its checks an enquiry is the model's work, which is
  -- refused by 9 and 10 alone
  pub improvement : (age year : ℕ) → first_of (run_and_history_check run history) (cell_check (first_year (basis_with run history)) age year) ≡ passed →
      improvement_enquiry run history age year ≡ improvement_needed age year (improvement_of (basis_with run history) age year)
  pub factor : (age year : ℕ) → first_of (run_and_history_check run history) (cell_check (basis_with run history).base age year) ≡ passed →
      factor_enquiry run history age year ≡ factor_of (basis_with run history) age year
  pub rate : (age year : ℕ) → first_of (run_and_history_check run history) (cell_check (rated_from (basis_with run history)) age year) ≡ passed →
      rate_enquiry run history age year ≡ rate_of (basis_with run history) age year
  pub survivorship : (kind : Kind) (age deferment year : ℕ) → valuation_check run history age deferment year ≡ passed →
      survivorship_enquiry run history kind age deferment year ≡ survivors_of (basis_with run history) kind age deferment year
  pub expectation : (kind : Kind) (age deferment year : ℕ) → valuation_check run history age deferment year ≡ passed →
      expectation_enquiry run history kind age deferment year ≡ expectation_of (basis_with run history) kind age deferment year
  pub annuity : (kind : Kind) (age deferment year : ℕ) → valuation_check run history age deferment year ≡ passed →
      annuity_enquiry run history kind age deferment year ≡ annuity_of (basis_with run history) kind age deferment year
  pub point : (q : Question) → question_check (rated_from (basis_with run history)) q.age q.deferment q.year ≡ passed →
      point_of (basis_with run history) q ≡ point_answer_of (results_of (basis_with run history) q.age q.deferment q.year)
  -- a liability is worked out from the model's annuity, and the running total is the sum for those who joined and have not left (02, change 6)
  pub liability : (year age pension : ℕ) → valuation_check run history age 0 year ≡ passed →
      liability_on run history age year pension ≡ and_then (annuity_of (basis_with run history) Cohort age 0 year) (λ a. value (liability_of pension a))
  pub not_below_zero : (numbers : List ℕ) (year number age pension : ℕ) (l : ℤ) → liability_joining numbers year run history number age pension ≡ value l →
      l ≡ pos (nat_abs l)
  pub running_total : RunningTotal
  -- which is the value that each join and leave hands to the host, where its refusal has number 0
  pub handed_total : (year : ℕ) (lent : List ℕ) (calls : List Call) (call : Call) → year < 2 ^ 32 → 2002 ≤ length lent →
      let r = answer_of (total_said (roll_by (roll_after (after_call lent (opened_roll year lent)) calls) call)) in
      r.refusal.number ≡ 0 → r.value ≡ total_of (members_after year [] (calls ++ call ∷ []))
  -- what the host keeps behind a roll is left alone
  pub further_kept : FurtherKept
  -- the weight is the one that 01 prints with P in per cent
  pub weight : WeightInPerCent
  -- ties go up, and the two components are rounded once (02, change 3)
  pub ties : TiesGoUp
  pub one_rounding : OneRounding
  -- from 2130 on an improvement is the long-term rates, age plus birth year, plus the addition, and is not refused by 9; each later factor takes
  -- them, and no answer reads a birth year after 2110 (02, change 9)
  pub long_term : LongTermFrom2130 (basis_with run history)
  pub later_years : EachLaterYear (basis_with run history)
  pub birth_years : (other : ℕ → Convergence) → NoneAfter2110 (basis_with run history) other
  -- the short form is accepted, and differs only in what it may
  pub short_form : (rate : ℤ) → ShortFormStands run rate
  -- its period by age is 20 through age 60, then 20 less the whole part of (age − 60) / 2 through 90, and 5 above (02, change 8)
  pub period_by_age : PeriodByAge
  -- a lifeline's steps are cohort survivorship, and say what their checks, their age and their year say
  pub lifeline : (age year : ℕ) → IsCohortSurvivorship run history age year
  -- the marked figures of the paper, and those of the factor after 2130
  pub figures : FiguresHold
  pub later_figures : AfterLastCellHold
  -- the sweep has what the direct engine answers (02, changes 5 and 9)
  pub sweep : EachStep run history
  -- and neither it nor the factor table leaves a number of a lent list free
  pub encoding_is_fixed : EncodingIsFixed
  pub factor_table_is_fixed : FactorTableIsFixed
  -- "A basis read and written back is the same file; written and read back, the same basis"
  pub round_trips : RoundTrips
  -- what is written in the old form reads back as a run that stands for the same basis (02, change 7)
  pub forms : Forms
  -- and a basis of either form answers as that of the other form with the same fields does, whatever is asked
  pub both_forms : BothForms

-- ---- Demand 3, "Where no exact improvement taken into the answer is below zero, the answer lies within the paper's distances of the exact,
-- unrounded model", is `Demand3` in crates/exact/specs/Distance.antt; `HandedOut` carries it to what a host is handed
pub record Demands (run history : List ℕ) : Type 0 where
  pub first : Demand1 run history
  pub second : Demand2 run history
  pub third : Demand3 run history
  pub distances_are_sharp : DistancesAreSharp (basis_with run history)
  pub handed_out : HandedOut run history
