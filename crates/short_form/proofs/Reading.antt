-- What is read at each place of a short form. Assumes nothing.
use mathlib.Core.Path.{◌≡◌, refl, sym, ap, ◌∙◌}
use mathlib.Core.List.{List}
use Prim.Native.Nat.{ℕ, ◌+◌, ◌*◌, ◌-◌, ◌≤◌, ◌<◌}
use native.Mathlib.Nat.{zero-add, one-mul}
use native.Mathlib.Omega.{arith}
use lib.ListN.{length, take, drop, replicate, get_or-replicate}
use lib.Seq.{get_or-take, get_or-drop}
use lib.IntN.{ℤ, pos, nat_abs}
use Rattle.layout.specs.Layout.{Form, width_of, proportion_of, proportion_at, run_length, fields_end, form_of_run, ages, birth_years}
use Rattle.layout.specs.Layout.{age_long_term_rates_at, age_periods_at, age_proportions_at}
use Rattle.layout.specs.Layout.{birth_year_initial_rates_at, birth_year_long_term_rates_at, birth_year_periods_at, birth_year_proportions_at}
use Rattle.little_endian.specs.Bytes.{byte_at, u16_at, u32_at, signed32, i32_at, i32_bytes}
use Rattle.little_endian.proofs.Bytes.{i32-back, same_word}
use Rattle.basis.proofs.Lengths.{entry-inside}
use Rattle.short_form.specs.ShortForm.{long_term_of, age_period_of, birth_year_period, every_proportion}
use Rattle.short_form.specs.ShortForm.{long_term_rates, age_periods, birth_year_periods, proportions, ages_of, birth_years_of, short_form_of}
use Rattle.short_form.proofs.Lists.{Parts, parts}
use Rattle.short_form.proofs.Entries.{entry-bytes}
use Rattle.short_form.proofs.Tables.{rate-entry, rate-width, period-entry, period-width, proportion-entry, proportion-width, proportion-is}
use Rattle.short_form.proofs.LongTerm.{long-term-size}
use Rattle.short_form.proofs.Placing.{length-rates, length-age-periods, length-proportions, repeated, length_front, length-kept}

-- ---- numbers whose bytes are the same
same_half : (s t : List ℕ) (at : ℕ) → byte_at s at ≡ byte_at t at → byte_at s (at + 1) ≡ byte_at t (at + 1) → u16_at s at ≡ u16_at t at
same_half s t at e f = rw (e, f) refl

-- the bytes of the P at place i
proportion-bytes : (form : Form) (n i j : ℕ) → i < n → j < width_of (proportion_of form)
    → byte_at (proportions form n) (width_of (proportion_of form) * i + j) ≡ byte_at (proportion-entry form i) j
proportion-bytes form n i j = entry-bytes (proportion-entry form) (width_of (proportion_of form)) (proportion-width form) 0 n i j _ refl

-- ---- the bytes of a short form, part by part
module _ (run : List ℕ) (rate : ℤ) (form : Form) (e : form_of_run (length run) ≡ form) (long : length run ≡ run_length form) where
  age-parts : Parts (short_form_of run rate)
      (take age_long_term_rates_at run) (long_term_rates rate) age_periods (proportions form ages) (birth_years_of form run)
      age_long_term_rates_at (4 * ages) ages (width_of (proportion_of form) * ages)
  unfolding short_form_of ages_of
  age-parts =
      rw e (parts _ _ _ _ _ age_long_term_rates_at (4 * ages) ages (width_of (proportion_of form) * ages)
      (length_front form run long) (length-rates rate) length-age-periods (length-proportions form ages))

  birth-year-parts : Parts (birth_years_of form run)
      (take (4 * birth_years) (drop (birth_year_initial_rates_at form) run)) (replicate (4 * birth_years) 0) birth_year_periods (proportions form birth_years)
      (replicate (run_length form - fields_end form) 0)
      (4 * birth_years) (4 * birth_years) birth_years (width_of (proportion_of form) * birth_years)
  unfolding birth_years_of
  birth-year-parts =
      parts _ _ _ _ _ (4 * birth_years) (4 * birth_years) birth_years (width_of (proportion_of form) * birth_years)
      (length-kept form run long) (repeated (4 * birth_years) 0) (repeated birth_years birth_year_period) (length-proportions form birth_years)

  in-birth-years : (at i : ℕ) → at ≡ birth_year_initial_rates_at form + i → byte_at (short_form_of run rate) at ≡ byte_at (birth_years_of form run) i
  in-birth-years at i f = rw f (age-parts.fifth i)

  pub front_kept : (at : ℕ) → at < age_long_term_rates_at → byte_at (short_form_of run rate) at ≡ byte_at run at
  front_kept at l = age-parts.first at l ∙ get_or-take age_long_term_rates_at run at 0 l

  age-rate-byte : (i j : ℕ) → i < ages → j < 4 → byte_at (short_form_of run rate) (age_long_term_rates_at + 4 * i + j) ≡ byte_at (i32_bytes (long_term_of rate (20 + i))) j
  age-rate-byte i j l m =
      let f : age_long_term_rates_at + 4 * i + j ≡ age_long_term_rates_at + (4 * i + j) = omega arith in
      rw f (age-parts.second (4 * i + j) (omega arith) ∙ entry-bytes (rate-entry rate) 4 (rate-width rate) 20 ages i j (4 * i + j) refl l m)

  pub age-period : (i : ℕ) → i < ages → byte_at (short_form_of run rate) (age_periods_at + 1 * i) ≡ age_period_of (20 + i)
  age-period i l = rw one-mul (age-parts.third i l ∙ entry-bytes period-entry 1 period-width 20 ages i 0 i (omega arith) l (omega arith))

  pub age-proportion : (i : ℕ) → i < ages → proportion_at form (short_form_of run rate) age_proportions_at i ≡ every_proportion
  age-proportion i l =
      proportion-is form (short_form_of run rate) (age_proportions_at + width_of (proportion_of form) * i)
      (λ j m. let place = width_of (proportion_of form) * i + j in
      let f : age_proportions_at + width_of (proportion_of form) * i + j ≡ age_proportions_at + place = omega arith in
      rw f (age-parts.fourth place (omega (arith, entry-inside (width_of (proportion_of form)) i ages l)) ∙ proportion-bytes form ages i j l m))

  birth-kept : (i : ℕ) → i < 4 * birth_years → byte_at (short_form_of run rate) (birth_year_initial_rates_at form + i) ≡ byte_at run (birth_year_initial_rates_at form + i)
  birth-kept i l =
      in-birth-years (birth_year_initial_rates_at form + i) i refl ∙ birth-year-parts.first i l
      ∙ get_or-take (4 * birth_years) (drop (birth_year_initial_rates_at form) run) i 0 l ∙ get_or-drop (birth_year_initial_rates_at form) run i 0

  birth-rate-byte : (i : ℕ) → i < 4 * birth_years → byte_at (short_form_of run rate) (birth_year_long_term_rates_at form + i) ≡ 0
  birth-rate-byte i l =
      in-birth-years (birth_year_long_term_rates_at form + i) (4 * birth_years + i) (omega arith) ∙ birth-year-parts.second i l
      ∙ get_or-replicate (4 * birth_years) i 0 0 l

  pub birth-period : (i : ℕ) → i < birth_years → byte_at (short_form_of run rate) (birth_year_periods_at form + 1 * i) ≡ birth_year_period
  birth-period i l =
      in-birth-years (birth_year_periods_at form + 1 * i) (8 * birth_years + i) (omega arith) ∙ birth-year-parts.third i l
      ∙ get_or-replicate birth_years i birth_year_period 0 l

  pub birth-proportion : (i : ℕ) → i < birth_years → proportion_at form (short_form_of run rate) (birth_year_proportions_at form) i ≡ every_proportion
  birth-proportion i l =
      proportion-is form (short_form_of run rate) (birth_year_proportions_at form + width_of (proportion_of form) * i)
      (λ j m. let place = width_of (proportion_of form) * i + j in
      in-birth-years (birth_year_proportions_at form + width_of (proportion_of form) * i + j) (9 * birth_years + place) (omega arith)
      ∙ birth-year-parts.fourth place (omega (arith, entry-inside (width_of (proportion_of form)) i birth_years l))
      ∙ proportion-bytes form birth_years i j l m)

  pub last-zero : (at : ℕ) → fields_end form ≤ at → at < run_length form → byte_at (short_form_of run rate) at ≡ 0
  last-zero at l m =
      let i = at - fields_end form in
      let fields = 9 * birth_years + width_of (proportion_of form) * birth_years in
      in-birth-years at (fields + i) (omega arith) ∙ birth-year-parts.fifth i
      ∙ get_or-replicate (run_length form - fields_end form) i 0 0 (omega arith)

  -- ---- and its numbers
  pub half-kept : (at : ℕ) → at < 1077 → u16_at (short_form_of run rate) at ≡ u16_at run at
  half-kept at l = same_half (short_form_of run rate) run at (front_kept at (omega arith)) (front_kept (at + 1) (omega arith))

  pub word_kept : (at : ℕ) → at < 1075 → u32_at (short_form_of run rate) at ≡ u32_at run at
  word_kept at l = same_word (short_form_of run rate) run at at (λ j m. front_kept (at + j) (omega arith))

  pub age-rate : (i : ℕ) → i < ages → nat_abs rate < 2_147_483_648 → i32_at (short_form_of run rate) (age_long_term_rates_at + 4 * i) ≡ long_term_of rate (20 + i)
  age-rate i l h =
      ap signed32 (same_word (short_form_of run rate) (i32_bytes (long_term_of rate (20 + i))) (age_long_term_rates_at + 4 * i) 0 (λ j m. rw zero-add (age-rate-byte i j l m)))
      ∙ i32-back (long_term_of rate (20 + i)) (omega (arith, long-term-size rate (20 + i) 2_147_483_647 (omega arith)))

  pub birth-initial : (i : ℕ) → i < birth_years → i32_at (short_form_of run rate) (birth_year_initial_rates_at form + 4 * i) ≡ i32_at run (birth_year_initial_rates_at form + 4 * i)
  birth-initial i l =
      let f : (j : ℕ) → birth_year_initial_rates_at form + 4 * i + j ≡ birth_year_initial_rates_at form + (4 * i + j) = λ j. omega arith in
      ap signed32 (same_word (short_form_of run rate) run (birth_year_initial_rates_at form + 4 * i) (birth_year_initial_rates_at form + 4 * i)
      (λ j m. rw (f j) (birth-kept (4 * i + j) (omega arith))))

  pub birth-rate : (i : ℕ) → i < birth_years → i32_at (short_form_of run rate) (birth_year_long_term_rates_at form + 4 * i) ≡ pos 0
  birth-rate i l =
      let f : (j : ℕ) → birth_year_long_term_rates_at form + 4 * i + j ≡ birth_year_long_term_rates_at form + (4 * i + j) = λ j. omega arith in
      ap signed32 (same_word (short_form_of run rate) (replicate 4 0) (birth_year_long_term_rates_at form + 4 * i) 0
      (λ j m. rw (f j, zero-add) (birth-rate-byte (4 * i + j) (omega arith) ∙ sym (get_or-replicate 4 j 0 0 m))))
      ∙ i32-back (pos 0) (omega arith)
