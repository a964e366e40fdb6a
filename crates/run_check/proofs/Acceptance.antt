-- A run passes its check exactly if it is accepted: each row of the table of fields says what 01 says of that field. Assumes nothing.
use mathlib.Core.Path.{◌≡◌, refl, sym, ap, ◌∙◌}
use mathlib.Core.Bool.{Bool, true, false, cond}
use mathlib.Core.List.{List, [], ◌∷◌, ◌++◌}
use Prim.Native.Nat.{ℕ, ◌+◌, ◌*◌, ◌-◌, ◌<◌, ◌≤◌}
use native.Mathlib.Omega.{arith}
use lib.ListN.{length, get_or, take}
use lib.Seq.{get_or-take}
use lib.Dec.{eqb, eqb→eq}
use lib.IntN.{pos, nat_abs}
use Rattle.little_endian.specs.Bytes.{byte_at, i32_at}
use Rattle.layout.specs.declared.Number.TheVariants.{SignedWord}
use Rattle.layout.specs.Layout.{Form, mpb1, mpb2}
use Rattle.layout.specs.Layout.{entry_at, proportion_of, hundredths_of, greatest_of, letter_of, greatest_proportion, run_length, fields_end, form_of_run, mark_of}
use Rattle.layout.specs.Layout.{ages, birth_years}
use Rattle.layout.specs.Layout.{addition_at, zeros_at, base_rates_at, addition_limit, rate_limit}
use Rattle.layout.specs.Layout.{age_initial_rates_at, age_long_term_rates_at, age_periods_at, age_proportions_at}
use Rattle.layout.specs.Layout.{birth_year_initial_rates_at, birth_year_long_term_rates_at, birth_year_periods_at, birth_year_proportions_at}
use Rattle.layout.proofs.EachForm.{run-low, fields-inside}
use Rattle.outcome.specs.Outcome.{passed, refused_by, refusal}
use Rattle.basis.specs.Basis.{basis_of, terms_at, age_place, birth_year_place, ConvergenceLimits, Accepted}
use Rattle.basis.proofs.Places.{age-place, birth-year-place, age-place-inside, birth-year-place-inside}
use Rattle.field_check.specs.declared.Field.{Field}
use Rattle.field_check.specs.Field.{fields_check}
use Rattle.field_check.proofs.Limits.{Between, least, most, natural, size as type_size, sized}
use Rattle.field_check.proofs.Holds.{Holds, single}
use Rattle.field_check.proofs.Fields.{AllHold, none, ◌and◌, all_hold, all_pass}
use Rattle.run_check.specs.Run.{exactly, base_rates, rates, periods, proportions, term_fields, fields_of, run_check}
use Rattle.run_check.proofs.Turns.{whole}

-- ---- a limit of P in hundredths of a per cent is one in the form's own counting
in-hundredths : (form : Form) (p : ℕ) → p ≤ greatest_of form → hundredths_of form * p ≤ greatest_proportion
in-hundredths mpb1 p h = omega arith
in-hundredths mpb2 p h = omega arith

as-counted : (form : Form) (p : ℕ) → hundredths_of form * p ≤ greatest_proportion → p ≤ greatest_of form
as-counted mpb1 p h = omega arith
as-counted mpb2 p h = omega arith

-- the kinds of number of P have nothing below zero
positive : (form : Form) (run : List ℕ) (offset i : ℕ) → entry_at (proportion_of form) run offset i ≡ pos (nat_abs (entry_at (proportion_of form) run offset i))
positive mpb1 run offset i = refl
positive mpb2 run offset i = refl

-- ---- the terms of improvement, by age and by birth year: four rows of n numbers each
module _ (form : Form) (run : List ℕ) (initial long period remaining n : ℕ) where
  abbrev Terms : Type 0
  Terms = (i : ℕ) → i < n → ConvergenceLimits (terms_at form run initial long period remaining i)

  terms : Holds run (rates initial n) → Holds run (rates long n) → Holds run (periods period n) → Holds run (proportions form remaining n) → Terms
  terms is ls ts ps =
      λ i l. record {
        initial = type_size (rate_limit - 1) (entry_at SignedWord run initial i) (is.within i l);
        long = type_size (rate_limit - 1) (entry_at SignedWord run long i) (ls.within i l);
        period_low = least (ts.within i l);
        period_high = most (ts.within i l);
        remaining = in-hundredths form _ (most (rw (positive form run remaining i) at (ps.within i l)));
      }

  module _ (t : Terms) where
    initials : Holds run (rates initial n)
    initials = record { within = λ i l. sized (rate_limit - 1) (entry_at SignedWord run initial i) (t i l).initial }

    longs : Holds run (rates long n)
    longs = record { within = λ i l. sized (rate_limit - 1) (entry_at SignedWord run long i) (t i l).long }

    shares : Holds run (proportions form remaining n)
    shares = record { within = λ i l. rw (positive form run remaining i) (natural (omega arith) (as-counted form _ (t i l).remaining)) }

    term_rows : {fs : List Field} → AllHold run fs → AllHold run (term_fields form initial long period remaining n ++ fs)
    term_rows rest =
        initials
        and longs
        and record { within = λ i l. natural (t i l).period_low (t i l).period_high }
        and shares
        and rest

-- ---- the letters of the mark
mark-of : (run : List ℕ) (letter : ℕ) → 4 ≤ length run → byte_at run 0 ≡ 77 → byte_at run 1 ≡ 80 → byte_at run 2 ≡ 66 → byte_at run 3 ≡ letter
    → take 4 run ≡ 77 ∷ 80 ∷ 66 ∷ letter ∷ []
mark-of (m ∷ p ∷ b ∷ o ∷ rest) letter l e₀ e₁ e₂ e₃ = rw (e₀, e₁, e₂, e₃) refl
mark-of (m ∷ p ∷ b ∷ []) letter l e₀ e₁ e₂ e₃ = absurd (omega arith)
mark-of (m ∷ p ∷ []) letter l e₀ e₁ e₂ e₃ = absurd (omega arith)
mark-of (m ∷ []) letter l e₀ e₁ e₂ e₃ = absurd (omega arith)
mark-of [] letter l e₀ e₁ e₂ e₃ = absurd (omega arith)

-- a number whose limits are one number
only : {n m : ℕ} → Between (pos n) (pos m) (pos n) → m ≡ n
only b = omega (arith, least b, most b)

same : {n m : ℕ} → m ≡ n → Between (pos n) (pos m) (pos n)
same e = natural (omega arith) (omega arith)

-- ---- what passes is accepted
module _ (run : List ℕ) (form : Form) (e : form_of_run (length run) ≡ form) (size : length run ≡ run_length form) where
  of-rows : AllHold run (fields_of form) → Accepted run
  unfolding basis_of fields_of
  of-rows
      (m and p and b and letter and zeros and last-zeros and foundation and base and addition and discount and base-rates
      and age-initials and age-longs and age-periods and age-proportions
      and birth-initials and birth-longs and birth-periods and birth-proportions and none) =
      record {
        size = rw e size;
        mark = rw e
            (mark-of run (letter_of form) (omega (arith, run-low form)) (only (m.within 0 (omega arith))) (only (p.within 0 (omega arith)))
            (only (b.within 0 (omega arith))) (only (letter.within 0 (omega arith))));
        zeros = λ at l h. only (at_offset at zeros_at l (zeros.within (at - zeros_at) (omega arith)));
        last_zeros = λ at l h.
            only (at_offset at (fields_end form) (rw e at l) (last-zeros.within (at - fields_end form) (omega (arith, size, h, rw e at l))));
        limits =
            record {
              foundation_low = least (foundation.within 0 (omega arith));
              foundation_high = most (foundation.within 0 (omega arith));
              base_low = least (base.within 0 (omega arith));
              base_high = most (base.within 0 (omega arith));
              addition = type_size (addition_limit - 1) (i32_at run addition_at) (addition.within 0 (omega arith));
              discount_low = (discount.within 0 (omega arith)).least;
              discount_high = (discount.within 0 (omega arith)).most;
              base_rate = λ age l h. most (base-rates.within (age_place age) (age-place-inside age));
              by_age = λ age l h.
                  rw e (terms form run _ _ _ _ ages age-initials age-longs age-periods age-proportions (age_place age) (age-place-inside age));
              by_birth_year = λ year l h.
                  rw e (terms form run _ _ _ _ birth_years birth-initials birth-longs birth-periods birth-proportions (birth_year_place year)
                  (birth-year-place-inside year));
            };
      }
    where
      at_offset : (at from : ℕ) → from ≤ at → Between (pos 0) (pos (byte_at run (from + 1 * (at - from)))) (pos 0) → Between (pos 0) (pos (byte_at run at)) (pos 0)
      at_offset at from l b = let i : from + 1 * (at - from) ≡ at = omega arith in rw i at b

-- ---- what is accepted passes
module _ (run : List ℕ) (a : Accepted run) (form : Form) (e : form_of_run (length run) ≡ form) where
  letter : (i : ℕ) → i < 4 → byte_at run i ≡ get_or (mark_of form) i 0
  letter i l = sym (get_or-take 4 run i 0 l) ∙ ap (λ (s : List ℕ). get_or s i 0) (rw e at a.mark)

  zeros-hold : Holds run (exactly (pos 0) zeros_at (base_rates_at - zeros_at))
  zeros-hold = record { within = λ i l. same (a.zeros (zeros_at + 1 * i) (omega arith) (omega arith)) }

  last-zeros-hold : Holds run (exactly (pos 0) (fields_end form) (run_length form - fields_end form))
  last-zeros-hold =
      record {
        within = λ i l. same (a.last_zeros (fields_end form + 1 * i) (rw e (omega arith)) (omega (arith, rw e at a.size, fields-inside form)));
      }

  base-rates-hold : Holds run base_rates
  unfolding basis_of
  base-rates-hold =
      record {
        within = λ i l.
            let p : age_place (20 + i) ≡ i = age-place (20 + i) (omega arith) ∙ omega arith in
            natural (omega arith) (rw p at (a.limits.base_rate (20 + i) (omega arith) (omega arith)));
      }

  by-age : Terms form run age_initial_rates_at age_long_term_rates_at age_periods_at age_proportions_at ages
  unfolding basis_of
  by-age i l =
      let p : age_place (20 + i) ≡ i = age-place (20 + i) (omega arith) ∙ omega arith in
      rw (p, e) at (a.limits.by_age (20 + i) (omega arith) (omega arith))

  by-birth-year : Terms form run
      (birth_year_initial_rates_at form) (birth_year_long_term_rates_at form) (birth_year_periods_at form) (birth_year_proportions_at form) birth_years
  unfolding basis_of
  by-birth-year i l =
      let p : birth_year_place (1842 + i) ≡ i = birth-year-place (1842 + i) (omega arith) ∙ omega arith in
      rw (p, e) at (a.limits.by_birth_year (1842 + i) (omega arith) (omega arith))

  rows-hold : AllHold run (fields_of form)
  unfolding fields_of basis_of
  rows-hold =
      single refl (same (letter 0 (omega arith)))
      and single refl (same (letter 1 (omega arith)))
      and single refl (same (letter 2 (omega arith)))
      and single refl (same (letter 3 (omega arith)))
      and zeros-hold
      and last-zeros-hold
      and single refl (natural a.limits.foundation_low a.limits.foundation_high)
      and single refl (natural a.limits.base_low a.limits.base_high)
      and single refl (sized (addition_limit - 1) (i32_at run addition_at) a.limits.addition)
      and single refl (record { least = a.limits.discount_low; most = a.limits.discount_high })
      and base-rates-hold
      and term_rows form run _ _ _ _ ages by-age (term_rows form run _ _ _ _ birth_years by-birth-year none)

-- ---- the theorem, each way
module _ (run : List ℕ) where
  abbrev form : Form
  form = form_of_run (length run)

  right-length : run_check run ≡ passed → length run ≡ run_length form
  unfolding run_check
  right-length h = by (eqb (length run) (run_length form)) refl h
    where
      by : (t : Bool) → eqb (length run) (run_length form) ≡ t → cond t (fields_check run (fields_of form)) (refused_by (refusal 1 0 0)) ≡ passed
          → length run ≡ run_length form
      by true e k = eqb→eq (length run) (run_length form) (rw e tt)
      by false e k = let z : ◌≡◌ {A = ℕ} 0 1 = cc in absurd (omega arith)

  pub accepted : run_check run ≡ passed → Accepted run
  accepted h = let long = right-length h in of-rows run form refl long (all_hold run (fields_of form) (sym (whole run long) ∙ h))

  pub passes : Accepted run → run_check run ≡ passed
  passes a = whole run a.size ∙ all_pass run (rows-hold run a form refl)
