-- Every call refuses by the numbers of its parts, and each of these is one of the papers' list; none is 0. Assumes nothing.
use mathlib.Core.Path.{◌≡◌, refl}
use mathlib.Core.Bool.{Bool, true, false, cond}
use mathlib.Core.List.{List}
use Prim.Native.Nat.{ℕ}
use native.Mathlib.Omega.{arith}
use lib.Dec.{eqb}
use lib.IntN.{ℤ, pos, nat_abs}
use borrow.Author.Tests.{ne_eqb}
use lib.ListN.{length}
use Rattle.layout.specs.Layout.{mpb1, form_of_run, form_of_file, run_length, file_length}
use Rattle.basis.specs.Basis.{basis_of, rated_from}
use Rattle.outcome.specs.Outcome.{Finding, passed, refused_by, Outcome, value, refused, first_of}
use Rattle.outcome.specs.Refusals.{numbers, record_numbers, is_listed, Listed, RefusesBy, RefusedBy}
use Rattle.outcome.proofs.Refusals.{first_by, value-by, checked-by, then_by, check-among, work-among, record-numbers, never-zero}
use Rattle.lent.proofs.Numbered.{count-numbered}
use Rattle.run_check.proofs.Numbered.{run-numbered}
use Rattle.basis_file.specs.File.{run_in}
use Rattle.basis_file.proofs.Numbered.{file-numbered}
use Rattle.history.specs.History.{basis_with, run_and_history_check}
use Rattle.history.proofs.Numbered.{history-numbered, basis-numbered}
use Rattle.old_form.proofs.Numbered.{old-numbered}
use Rattle.short_form.proofs.Numbered.{short-form-numbered}
use Rattle.improvement.specs.Improvement.{first_year, improvement_of}
use Rattle.improvement.proofs.Numbered.{needed-numbered}
use Rattle.projection.proofs.Numbered.{factor-numbered, rate-numbered}
use Rattle.survivorship.specs.declared.Kind.TheVariants.{Cohort}
use Rattle.question.specs.Question.{cell_check}
use Rattle.question.proofs.Numbered.{cell-numbered, question-numbered}
use Rattle.enquiry.specs.Enquiry.{valuation_check, improvement_enquiry, factor_enquiry, rate_enquiry, survivorship_enquiry, expectation_enquiry, annuity_enquiry}
use Rattle.question.specs.declared.Question.{Question}
use Rattle.model_points.specs.declared.PointAnswer.{PointAnswer}
use Rattle.model_points.specs.Point.{point_answer_of, point_of}
use Rattle.small_set.specs.declared.Questions.{Questions}
use Rattle.small_set.specs.SmallSet.{set_of, small_set_of}
use Rattle.grid_record.specs.Record.{answered_of}
use Rattle.grid.specs.Grid.{grid_check}
use Rattle.lifeline.specs.Said.{Said, advanced, ended}
use Rattle.lifeline.specs.declared.Position.{Position}
use Rattle.lifeline.specs.Lifeline.{start_unless_refused, start_at, step_at}
use Rattle.lifeline.proofs.Numbered.{position-numbered}
use Rattle.lifeline.proofs.Survivorship.{is-cohort-survivorship}
use Rattle.roll.specs.Roll.{liability_of, liability_on, liability_joining}
use Rattle.roll.specs.Kept.{year_in, numbers_in, total_in, with_member, joining, joined_roll, leaving, left_roll, total_said, total_answer}
use Rattle.roll.proofs.Numbered.{room-numbered, join-numbered, leave-numbered}
use Rattle.engine.specs.Enquiry.{refusal_of, answer_of, signed_answer_of}
use Rattle.engine.specs.Lifelines.{step_refusal}
use Rattle.reply_text.specs.Reply.{reply_of}
use Rattle.enquiry_text.proofs.Numbered.{line-numbered}
use Rattle.refusals.specs.Numbered.{work_text, NumberedRefusals, ZeroIsNone}
use Rattle.refusals.proofs.Work.{year-numbered, survivors-numbered, expectation-numbered, annuity-numbered, work-numbered}

-- what the checks of an enquiry give, and a question's are among them
module _ (run history : List ℕ) where
  cell-checked : (first age year : ℕ) → RefusesBy numbers (first_of (run_and_history_check run history) (cell_check first age year))
  cell-checked first age year = first_by (basis-numbered run history) (check-among record-numbers (cell-numbered first age year))

  valuation-checked : (age deferment year : ℕ) → RefusesBy numbers (valuation_check run history age deferment year)
  valuation-checked age deferment year =
      first_by (basis-numbered run history) (check-among record-numbers (question-numbered (rated_from (basis_with run history)) age deferment year))

  -- ---- a lifeline
  start-numbered : (age year : ℕ) → RefusesBy numbers (start_at run history age year).check
  unfolding start_at
  start-numbered age year = by (valuation_check run history age 0 year) (valuation-checked age 0 year)
    where
      by : (c : Finding) → RefusesBy numbers c → RefusesBy numbers (start_unless_refused age year c).check
      by passed p = p
      by (refused_by r) p = p

  step-numbered : (p : Position) → RefusedBy numbers (step_at run history p).says
  step-numbered p =
      let own = first_by (basis-numbered run history) (position-numbered (length run) (rated_from (basis_with run history)) p) in
      let year = work-among record-numbers (year-numbered (basis_with run history) p.age p.year (pos p.survivors)) in
      rw ((is-cohort-survivorship run history p.age p.year).says p.survivors) (checked-by own (by (eqb p.age 150) (then_by year (λ s. value-by advanced))))
    where
      by : (t : Bool) {o : Outcome Said} → RefusedBy numbers o → RefusedBy numbers (cond t (value ended) o)
      by true w = value-by ended
      by false w = w

  -- ---- a roll: its own refusals, then those of an annuity
  join-refusals : (roll : List ℕ) (number age pension : ℕ) → RefusedBy numbers (total_said (joined_roll roll run history number age pension))
  unfolding joining liability_joining liability_on annuity_enquiry
  join-refusals roll number age pension =
      let annuity = checked-by (valuation-checked age 0 (year_in roll)) (work-among record-numbers (annuity-numbered (basis_with run history) Cohort age 0 (year_in roll))) in
      let liability = checked-by (room-numbered roll) (checked-by (join-numbered (numbers_in roll) number pension) (then_by annuity (λ a. value-by (liability_of pension a)))) in
      then_by (then_by liability (λ l. value-by (with_member number age pension (nat_abs l) roll))) (λ after. value-by (pos (total_in after)))

-- ---- a leave, and the total
leave-refusals : (roll : List ℕ) (number : ℕ) → RefusedBy numbers (total_said (left_roll roll number))
unfolding leaving
leave-refusals roll number =
    then_by (checked-by (first_by (room-numbered roll) (leave-numbered (numbers_in roll) number)) (value-by _)) (λ after. value-by (pos (total_in after)))

total-refusals : (roll : List ℕ) → RefusedBy numbers (total_answer roll)
total-refusals roll = then_by (checked-by (room-numbered roll) (value-by roll)) (λ after. value-by (pos (total_in after)))

-- ---- the small set as a whole
set-refusal : (run history : List ℕ) (questions : Questions) → (small_set_of run history questions).refusal ≡ refusal_of (run_and_history_check run history)
unfolding small_set_of
set-refusal run history questions = by (run_and_history_check run history) _
  where
    by : (c : Finding) (points : List PointAnswer) → (set_of c points).refusal ≡ refusal_of c
    by passed points = refl
    by (refused_by r) points = refl

pub numbered-refusals : (run history : List ℕ) → NumberedRefusals run history
unfolding improvement_enquiry factor_enquiry rate_enquiry survivorship_enquiry expectation_enquiry annuity_enquiry grid_check point_of answered_of
numbered-refusals run history =
    let b = basis_with run history in
    record {
      check_basis = run-numbered run;
      read_basis = λ file out. first_by (count-numbered (run_length (form_of_file (length file))) _) (file-numbered file);
      write_basis = λ out. first_by (count-numbered (file_length (form_of_run (length run))) _) (run-numbered run);
      write_old_form = λ out. first_by (count-numbered (file_length mpb1) _) (old-numbered run);
      short_form = λ rate out. first_by (count-numbered (run_length (form_of_run (length run))) _) (short-form-numbered run rate);
      with_history = basis-numbered run history;
      factor_work = factor-numbered b;
      rate_work = rate-numbered b;
      survivorship_work = survivors-numbered b;
      expectation_work = expectation-numbered b;
      annuity_work = annuity-numbered b;
      improvement = λ age year. checked-by (cell-checked run history (first_year b) age year) (work-among record-numbers (needed-numbered age year (improvement_of b age year)));
      factor = λ age year. checked-by (cell-checked run history b.base age year) (work-among record-numbers (factor-numbered b age year));
      rate = λ age year. checked-by (cell-checked run history (rated_from b) age year) (work-among record-numbers (rate-numbered b age year));
      survivorship = λ kind age deferment year. checked-by (valuation-checked run history age deferment year)
          (work-among record-numbers (survivors-numbered b kind age deferment year));
      expectation = λ kind age deferment year. checked-by (valuation-checked run history age deferment year)
          (work-among record-numbers (expectation-numbered b kind age deferment year));
      annuity = λ kind age deferment year. checked-by (valuation-checked run history age deferment year) (work-among record-numbers (annuity-numbered b kind age deferment year));
      small_set = set-refusal run history;
      grid = λ count. first_by (count-numbered 119 count) (basis-numbered run history);
      point = λ q. (work-numbered b q, refl);
      grid_record = λ p. refl;
      start = start-numbered run history;
      step = step-numbered run history;
      roll_open = room-numbered;
      roll_join = join-refusals run history;
      roll_leave = leave-refusals;
      roll_total = total-refusals;
      files = λ file. first_by (file-numbered file) (history-numbered (basis_of (run_in file)) history);
      line = line-numbered;
    }

-- ---- number 0
zero-unlisted : Listed numbers 0 → ⊥
zero-unlisted l = let h = never-zero 0 l in omega arith

zero-refused : {n : ℕ} → n ≡ 0 → Listed numbers n → ⊥
zero-refused e l = zero-unlisted (rw e at l)

pub zero-is-none : ZeroIsNone
unfolding numbers is_listed reply_of
zero-is-none =
    record {
      unlisted = refl;
      check = of-check;
      answer = of-answer;
      signed = of-signed;
      step = of-step;
      point = of-point;
      text = of-text;
    }
  where
    of-check : (c : Finding) → RefusesBy numbers c → (refusal_of c).number ≡ 0 → c ≡ passed
    of-check passed p e = refl
    of-check (refused_by r) p e = absurd (zero-refused e (p.listed r refl))

    of-answer : (work : Outcome ℤ) → RefusedBy numbers work → (answer_of work).refusal.number ≡ 0 → (v : ℤ) × (work ≡ value v)
    of-answer (value v) p e = (v, refl)
    of-answer (refused r) p e = absurd (zero-refused e (p.listed r refl))

    of-signed : (work : Outcome ℤ) → RefusedBy numbers work → (signed_answer_of work).refusal.number ≡ 0 → (v : ℤ) × (work ≡ value v)
    of-signed (value v) p e = (v, refl)
    of-signed (refused r) p e = absurd (zero-refused e (p.listed r refl))

    of-step : (says : Outcome Said) → RefusedBy numbers says → (step_refusal says).number ≡ 0 → (s : Said) × (says ≡ value s)
    of-step (value s) p e = (s, refl)
    of-step (refused r) p e = absurd (zero-refused e (p.listed r refl))

    of-point : (work : Outcome (List ℕ)) → RefusedBy record_numbers work → (point_answer_of work).refusal.number ≡ 0 → (results : List ℕ) × (work ≡ value results)
    of-point (value v) p e = (v, refl)
    of-point (refused r) p e = absurd (zero-refused e (record-numbers _ (p.listed r refl)))

    of-text : (q : Question) (work : Outcome (List ℕ)) → RefusedBy record_numbers work → reply_of q (point_answer_of work) ≡ work_text q work
    of-text q (value v) p = refl
    of-text q (refused r) p = rw (ne_eqb r.number 0 (λ e. zero-refused e (record-numbers _ (p.listed r refl)))) refl
