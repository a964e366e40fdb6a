-- "One of the numbered refusals" (demand 1): every refusal of every call has a number of the papers' list (`numbers`), a record's is 6 to 10
-- (`record_numbers`), and none is 0, which stands for none in records, in C and in the text.
use Rattle.std.specs.Prelude.{◌≡◌, false, List, ◌++◌, ℕ, ℤ}
use Rattle.basis.specs.Basis.{Basis, rated_from}
use Rattle.outcome.specs.Outcome.{Finding, passed, Outcome, value, refused, checked}
use Rattle.outcome.specs.Refusals.{numbers, record_numbers, is_listed, RefusesBy, RefusedBy}
use Rattle.run_check.specs.Run.{run_check}
use Rattle.history.specs.History.{basis_with, run_and_history_check}
use Rattle.projection.specs.Projection.{factor_of, rate_of}
use Rattle.survivorship.specs.declared.Kind.{Kind}
use Rattle.survivorship.specs.Survivorship.{survivors_of}
use Rattle.valuation.specs.Valuation.{expectation_of, annuity_of}
use Rattle.question.specs.Question.{question_check}
use Rattle.enquiry.specs.Enquiry.{improvement_enquiry, factor_enquiry, rate_enquiry, survivorship_enquiry, expectation_enquiry, annuity_enquiry}
use Rattle.question.specs.declared.Question.{Question}
use Rattle.model_points.specs.Point.{results_of, point_answer_of, point_of}
use Rattle.small_set.specs.declared.Questions.{Questions}
use Rattle.small_set.specs.SmallSet.{small_set_of}
use Rattle.grid_record.specs.declared.Point.{Point}
use Rattle.grid_record.specs.Record.{question_of, answered_of}
use Rattle.grid.specs.Grid.{grid_check}
use Rattle.lifeline.specs.declared.Position.{Position}
use Rattle.lifeline.specs.Said.{Said}
use Rattle.lifeline.specs.Lifeline.{start_at, step_at}
use Rattle.roll.specs.Kept.{roll_check, joined_roll, left_roll, total_said, total_answer}
use Rattle.engine.specs.Enquiry.{refusal_of, answer_of, signed_answer_of}
use Rattle.basis_file.specs.File.{read_check, write_check}
use Rattle.old_form.specs.OldForm.{write_old_check}
use Rattle.short_form.specs.ShortForm.{short_check}
use Rattle.engine.specs.Lifelines.{step_refusal}
use Rattle.reply_text.specs.Ascii.{ascii}
use Rattle.reply_text.specs.Reply.{question_text, results_text, refusal_line, reply_of}
use Rattle.enquiry_text.specs.Line.{line_of}
use Rattle.enquiry_lines.specs.Output.{files_check}

-- the work on a question: its own checks, then the four results
abbrev pub work_on : Basis → Question → Outcome (List ℕ)
work_on b q = checked (question_check (rated_from b) q.age q.deferment q.year) (results_of b q.age q.deferment q.year)

-- ---- every call, by the definition that its contract cites
pub record NumberedRefusals (run history : List ℕ) : Type 0 where
  -- the basis: a data run checked, a file read and written, in its own form and in the old one, a short form made; a data run with its history
  pub check_basis : RefusesBy numbers (run_check run)
  pub read_basis : (file out : List ℕ) → RefusesBy numbers (read_check file out)
  pub write_basis : (out : List ℕ) → RefusesBy numbers (write_check run out)
  pub write_old_form : (out : List ℕ) → RefusesBy numbers (write_old_check run out)
  pub short_form : (rate : ℤ) (out : List ℕ) → RefusesBy numbers (short_check run rate out)
  pub with_history : RefusesBy numbers (run_and_history_check run history)
  -- the work: 9 and 10 are among 6 to 10
  pub factor_work : (age year : ℕ) → RefusedBy record_numbers (factor_of (basis_with run history) age year)
  pub rate_work : (age year : ℕ) → RefusedBy record_numbers (rate_of (basis_with run history) age year)
  pub survivorship_work : (kind : Kind) (age n year : ℕ) → RefusedBy record_numbers (survivors_of (basis_with run history) kind age n year)
  pub expectation_work : (kind : Kind) (age deferment year : ℕ) → RefusedBy record_numbers (expectation_of (basis_with run history) kind age deferment year)
  pub annuity_work : (kind : Kind) (age deferment year : ℕ) → RefusedBy record_numbers (annuity_of (basis_with run history) kind age deferment year)
  -- the six enquiries
  pub improvement : (age year : ℕ) → RefusedBy numbers (improvement_enquiry run history age year)
  pub factor : (age year : ℕ) → RefusedBy numbers (factor_enquiry run history age year)
  pub rate : (age year : ℕ) → RefusedBy numbers (rate_enquiry run history age year)
  pub survivorship : (kind : Kind) (age deferment year : ℕ) → RefusedBy numbers (survivorship_enquiry run history kind age deferment year)
  pub expectation : (kind : Kind) (age deferment year : ℕ) → RefusedBy numbers (expectation_enquiry run history kind age deferment year)
  pub annuity : (kind : Kind) (age deferment year : ℕ) → RefusedBy numbers (annuity_enquiry run history kind age deferment year)
  -- the small set and the grid, each as a whole; then a point and a record
  pub small_set : (questions : Questions) → (small_set_of run history questions).refusal ≡ refusal_of (run_and_history_check run history)
  pub grid : (count : ℕ) → RefusesBy numbers (grid_check run history count)
  pub point : (q : Question) →
      RefusedBy record_numbers (work_on (basis_with run history) q) × (point_of (basis_with run history) q ≡ point_answer_of (work_on (basis_with run history) q))
  pub grid_record : (p : Point) → (answered_of (basis_with run history) p).refusal ≡ (point_of (basis_with run history) (question_of p)).refusal.number
  -- a lifeline's start and step
  pub start : (age year : ℕ) → RefusesBy numbers (start_at run history age year).check
  pub step : (p : Position) → RefusedBy numbers (step_at run history p).says
  -- a roll opened, a join, a leave, and its total
  pub roll_open : (roll : List ℕ) → RefusesBy numbers (roll_check roll)
  pub roll_join : (roll : List ℕ) (number age pension : ℕ) → RefusedBy numbers (total_said (joined_roll roll run history number age pension))
  pub roll_leave : (roll : List ℕ) (number : ℕ) → RefusedBy numbers (total_said (left_roll roll number))
  pub roll_total : (roll : List ℕ) → RefusedBy numbers (total_answer roll)
  -- the points program: its files as a whole, and a line (one that is an enquiry is answered as a point)
  pub files : (file : List ℕ) → RefusesBy numbers (files_check file history)
  pub line : (number : ℕ) (text : List ℕ) → RefusedBy numbers (line_of number text)

-- ---- none has number 0, so that 0 stands for none in whatever is handed out
-- what is printed of the work on a question
abbrev pub work_text : Question → Outcome (List ℕ) → List ℕ
work_text q (value results) = question_text q ++ ascii " " ++ results_text results ++ ascii "\n"
work_text q (refused r) = refusal_line r

pub record ZeroIsNone : Type 0 where
  pub unlisted : is_listed numbers 0 ≡ false
  -- in C: a check, an answer, a signed one, a lifeline's step
  pub check : (c : Finding) → RefusesBy numbers c → (refusal_of c).number ≡ 0 → c ≡ passed
  pub answer : (work : Outcome ℤ) → RefusedBy numbers work → (answer_of work).refusal.number ≡ 0 → (v : ℤ) × (work ≡ value v)
  pub signed : (work : Outcome ℤ) → RefusedBy numbers work → (signed_answer_of work).refusal.number ≡ 0 → (v : ℤ) × (work ≡ value v)
  pub step : (says : Outcome Said) → RefusedBy numbers says → (step_refusal says).number ≡ 0 → (s : Said) × (says ≡ value s)
  -- in a record of the grid and in a point of the small set
  pub point : (work : Outcome (List ℕ)) → RefusedBy record_numbers work → (point_answer_of work).refusal.number ≡ 0 → (results : List ℕ) × (work ≡ value results)
  -- in the text: an answered line is printed of work that is answered, and a refusal's line of work that is refused
  pub text : (q : Question) (work : Outcome (List ℕ)) → RefusedBy record_numbers work → reply_of q (point_answer_of work) ≡ work_text q work
