-- The three demands are met: by the theorems of the crates below, and where a field only says what a definition does, by that definition.
use mathlib.Core.Path.{◌≡◌, ◌∙◌, ap, refl}
use mathlib.Core.Bool.{Bool, true, false}
use mathlib.Core.List.{List}
use Prim.Native.Nat.{ℕ, ◌≤◌}
use native.Mathlib.Omega.{arith}
use lib.Dec.{eqb}
use lib.IntN.{ℤ, pos}
use lib.ListN.{length}
use borrow.Author.Tests.{le-leb}
use Rattle.lent.specs.Lent.{count_check, written}
use Rattle.outcome.specs.declared.Refusal.{Refusal}
use Rattle.outcome.specs.Outcome.{Finding, passed, refused_by, Outcome, value, refused, first_of, and_then}
use Rattle.outcome.proofs.Outcome.{both-passed, checked-passed, first-refused}
use Rattle.run_check.proofs.Acceptance.{accepted, passes}
use Rattle.basis_file.specs.File.{run_in, file_of, read_check, write_check}
use Rattle.arithmetic.proofs.Rounding.{ties-go-up}
use Rattle.basis_file.proofs.RoundTrip.{round-trips}
use Rattle.history.proofs.Acceptance.{history-acceptance}
use Rattle.improvement.proofs.Cases.{actual-answered}
use Rattle.component.proofs.PerCent.{weight-in-per-cent}
use Rattle.improvement.proofs.OneRounding.{one-rounding}
use Rattle.improvement.proofs.LongTerm.{long-term-from-2130}
use Rattle.improvement.proofs.Edges.{edges}
use Rattle.short_form.proofs.Accepted.{short-form-stands}
use Rattle.short_form.proofs.PeriodByAge.{period-by-age}
use Rattle.lifeline.proofs.Survivorship.{is-cohort-survivorship}
use Rattle.enquiry_text.proofs.Says.{line-says}
use Rattle.figures.proofs.Computed.{figures-hold, after-last-cell-hold}
use Rattle.later_years.proofs.LaterYears.{each-later-year}
use Rattle.later_years.proofs.BirthYears.{none-after-2110}
use Rattle.history.specs.History.{basis_with, run_and_history_check}
use Rattle.old_form.specs.OldForm.{write_old_check, old_file_of}
use Rattle.old_form.proofs.Forms.{forms}
use Rattle.both_forms.proofs.Forms.{both-forms}
use Rattle.short_form.specs.ShortForm.{short_form_of, short_check}
use Rattle.sweep.proofs.Steps.{each_step}
use Rattle.sweep.proofs.Fixed.{encoding-is-fixed}
use Rattle.factor_table.proofs.Fixed.{factor-table-is-fixed}
use Rattle.survivorship.specs.Survivorship.{survivors_after_year}
use Rattle.enquiry.specs.Enquiry.{improvement_enquiry, factor_enquiry, rate_enquiry, survivorship_enquiry, expectation_enquiry, annuity_enquiry}
use Rattle.model_points.specs.Point.{point_answer_of, point_of}
use Rattle.grid_record.specs.Record.{record_of, answered_of}
use Rattle.grid_record.specs.declared.Point.{Point}
use Rattle.grid.specs.Grid.{grid_check, records_of, grid_of}
use Rattle.grid.proofs.Filled.{answers-none}
use Rattle.lifeline.specs.declared.Position.{Position}
use Rattle.lifeline.specs.Lifeline.{step_check, year_unless_ended, step_at}
use Rattle.lifeline.proofs.Steps.{step_by, start-refused, step-refused}
use Rattle.lifeline.specs.Said.{Start, Step}
use Rattle.roll.specs.Roll.{join_check, liability_of, liability_on, liability_joining, after_call}
use Rattle.roll.specs.Kept.{roll_check, numbers_in, opened_roll, joining, joined_roll, left_roll}
use Rattle.roll.proofs.Liability.{join-value}
use Rattle.roll.proofs.RunningTotal.{running-total}
use Rattle.roll.proofs.Further.{further-kept}
use Rattle.engine.specs.Enquiry.{refusal_of}
use Rattle.refusals.proofs.Calls.{numbered-refusals, zero-is-none}
use Rattle.exact.proofs.Demands.{demand-3}
use Rattle.exact.proofs.Sharp.{distances-are-sharp}
use Rattle.layout.proofs.Printed.{printed}
use Rattle.handed_out.proofs.Distances.{handed_out}
use Rattle.demands.proofs.HandedTotal.{handed-total}
use Rattle.demands.specs.Demands.{RefusedThroughout, Demand1, Demand2, Demands}

-- a refused output is unchanged
unchanged : (check : Finding) (new out : List ℕ) (r : Refusal) → check ≡ refused_by r → written check new out ≡ out
unchanged check new out r h = rw h refl

-- and so is a roll
left_alone : (roll : List ℕ) (call : Outcome (List ℕ)) (r : Refusal) → call ≡ refused r → after_call roll call ≡ roll
left_alone roll call r h = rw h refl

module _ (run history : List ℕ) where
  grid-refused : (r : Refusal) → run_and_history_check run history ≡ refused_by r → (count : ℕ) → 119 ≤ count → grid_check run history count ≡ refused_by r
  unfolding grid_check count_check
  grid-refused r h count l = rw (le-leb 119 count l, h) refl

  join-refused : (r : Refusal) → run_and_history_check run history ≡ refused_by r → (roll : List ℕ) (number age pension : ℕ)
      → first_of (roll_check roll) (join_check (numbers_in roll) number pension) ≡ passed → joined_roll roll run history number age pension ≡ refused r
  unfolding joining liability_joining liability_on annuity_enquiry
  join-refused r h roll number age pension k =
      let own = both-passed (roll_check roll) (join_check (numbers_in roll) number pension) k in rw (own.0, own.1, h) refl

  refused-by : (r : Refusal) → run_and_history_check run history ≡ refused_by r → RefusedThroughout run history r
  unfolding improvement_enquiry factor_enquiry rate_enquiry survivorship_enquiry expectation_enquiry annuity_enquiry
  refused-by r h =
      let first : (next : Finding) → first_of (run_and_history_check run history) next ≡ refused_by r = λ next. first-refused (run_and_history_check run history) next r h in
      record {
        improvement = λ age year. rw h refl;
        factor = λ age year. rw h refl;
        rate = λ age year. rw h refl;
        survivorship = λ kind age deferment year. rw h refl;
        expectation = λ kind age deferment year. rw h refl;
        annuity = λ kind age deferment year. rw h refl;
        small_set = λ questions. (numbered-refusals run history).small_set questions ∙ ap refusal_of h;
        grid = grid-refused r h;
        start = λ age year. ap (λ (b : Start). b.check) (start-refused run history age year r (first _));
        step = λ p. ap (λ (s : Step). s.says) (step-refused run history p r (first _));
        join = join-refused r h;
      }

  grid-unchanged : (points : List Point) (r : Refusal) → grid_check run history (length points) ≡ refused_by r → grid_of run history points ≡ points
  unfolding grid_of
  grid-unchanged points r h = rw (ap records_of h) (answers-none (basis_with run history) points)

  -- a refused step leaves a lifeline unchanged, whichever check or work refused it
  line-unchanged : (p : Position) (r : Refusal) → (step_at run history p).says ≡ refused r → (step_at run history p).position ≡ p
  unfolding step_at year_unless_ended
  line-unchanged p r h =
      by (step_check run history p) (eqb p.age 150) (survivors_after_year (basis_with run history) p.age p.year (pos p.survivors)) h
    where
      by : (c : Finding) (t : Bool) (o : Outcome ℤ) → (step_by run history p c t o).says ≡ refused r → (step_by run history p c t o).position ≡ p
      by (refused_by q) t o g = refl
      by passed true o g = refl
      by passed false (refused q) g = refl
      by passed false (value s) g = let z : ◌≡◌ {A = ℕ} 0 1 = cc in absurd (omega arith)

  demand-1 : Demand1 run history
  unfolding point_of answered_of
  demand-1 =
      record {
        numbered = numbered-refusals run history;
        zero_is_none = zero-is-none;
        checked = refused-by;
        read_unchanged = λ file out r h. unchanged (read_check file out) (run_in file) out r h;
        write_unchanged = λ out r h. unchanged (write_check run out) (file_of run) out r h;
        short_form_unchanged = λ rate out r h. unchanged (short_check run rate out) (short_form_of run rate) out r h;
        old_form_unchanged = λ out r h. unchanged (write_old_check run out) (old_file_of run) out r h;
        grid_unchanged = grid-unchanged;
        lifeline_unchanged = line-unchanged;
        open_unchanged = λ year roll r h. left_alone roll (opened_roll year roll) r h;
        join_unchanged = λ roll number age pension r h. left_alone roll (joined_roll roll run history number age pension) r h;
        leave_unchanged = λ roll number r h. left_alone roll (left_roll roll number) r h;
        own_refusal = λ p r h. ap (λ (o : Outcome (List ℕ)). record_of p (point_answer_of o)) h;
      }

  demand-2 : Demand2 run history
  unfolding improvement_enquiry factor_enquiry rate_enquiry survivorship_enquiry expectation_enquiry annuity_enquiry liability_on point_of
  demand-2 =
      record {
        offsets = printed;
        run_accepted = accepted run;
        accepted_run = passes run;
        improvement = λ age year h. checked-passed _ _ h;
        factor = λ age year h. checked-passed _ _ h;
        rate = λ age year h. checked-passed _ _ h;
        survivorship = λ kind age deferment year h. checked-passed _ _ h;
        expectation = λ kind age deferment year h. checked-passed _ _ h;
        annuity = λ kind age deferment year h. checked-passed _ _ h;
        point = λ q h. ap point_answer_of (checked-passed _ _ h);
        liability = λ year age pension h. ap (λ (o : Outcome ℤ). and_then o (λ a. value (liability_of pension a))) (checked-passed _ _ h);
        not_below_zero = λ on year number age pension l h. (join-value on year run history number age pension l h).1;
        running_total = running-total;
        handed_total = handed-total;
        further_kept = further-kept;
        sweep = each_step run history;
        encoding_is_fixed = encoding-is-fixed;
        factor_table_is_fixed = factor-table-is-fixed;
        round_trips = round-trips;
        forms = forms;
        both_forms = both-forms;
        history_accepted = history-acceptance;
        actual_answered = actual-answered run history;
        edges = edges;
        lines = line-says;
        weight = weight-in-per-cent;
        ties = ties-go-up;
        one_rounding = one-rounding;
        long_term = long-term-from-2130 (basis_with run history);
        later_years = each-later-year (basis_with run history);
        birth_years = none-after-2110 (basis_with run history);
        short_form = short-form-stands run;
        period_by_age = period-by-age;
        lifeline = is-cohort-survivorship run history;
        figures = figures-hold;
        later_figures = after-last-cell-hold;
      }

pub demands-met : (run history : List ℕ) → Demands run history
demands-met run history =
    record {
      first = demand-1 run history;
      second = demand-2 run history;
      third = demand-3 run history;
      distances_are_sharp = distances-are-sharp (basis_with run history);
      handed_out = handed_out run history;
    }
