-- One part of the short form after another, as plain laws of lists. Assumes nothing.
use mathlib.Core.Path.{◌≡◌, ◌∙◌}
use mathlib.Core.List.{List, ◌++◌}
use Prim.Native.Nat.{ℕ, ◌+◌, ◌*◌, ◌-◌, ◌≤◌}
use native.Mathlib.Omega.{arith}
use lib.ListN.{length, take, drop, replicate, length-append, length-take, length-drop, length-replicate}
use lib.Seq.{length-take-le}
use lib.IntN.{ℤ}
use Rattle.layout.specs.Layout.{Form, width_of, proportion_of, run_length, fields_end, form_of_run, ages, birth_years}
use Rattle.layout.specs.Layout.{age_long_term_rates_at, age_periods_at, age_proportions_at}
use Rattle.layout.specs.Layout.{birth_year_initial_rates_at, birth_year_long_term_rates_at, birth_year_periods_at, birth_year_proportions_at}
use Rattle.layout.proofs.EachForm.{run-low, fields-inside}
use Rattle.lent.specs.Lent.{placed}
use Rattle.lent.proofs.Lent.{then}
use Rattle.short_form.specs.ShortForm.{birth_year_period, long_term_rates, age_periods, birth_year_periods, proportions, ages_of, birth_years_of, short_form_of}
use Rattle.short_form.proofs.Entries.{length-entries}
use Rattle.short_form.proofs.Tables.{rate-entry, rate-width, period-entry, period-width, proportion-entry, proportion-width}

-- four parts
pub four : (out a b c d : List ℕ) (at at₁ at₂ at₃ : ℕ) (p q r s : List ℕ)
    → at₁ ≡ at + length p → at₂ ≡ at₁ + length q → at₃ ≡ at₂ + length r → at₃ + length s ≤ length out
    → a ≡ placed out at p → b ≡ placed a at₁ q → c ≡ placed b at₂ r → d ≡ placed c at₃ s
    → d ≡ placed out at (p ++ q ++ r ++ s)
four out a b c d at at₁ at₂ at₃ p q r s e f g h i j k l =
    let pq : b ≡ placed out at (p ++ q) = j ∙ then out at p (omega arith) a i at₁ q e in
    let n : length (p ++ q) ≡ length p + length q = length-append p q in
    let pqr : c ≡ placed out at (p ++ q ++ r) = k ∙ then out at (p ++ q) (omega arith) b pq at₂ r (omega arith) in
    let m : length (p ++ q ++ r) ≡ length (p ++ q) + length r = length-append (p ++ q) r in
    l ∙ then out at (p ++ q ++ r) (omega arith) c pqr at₃ s (omega arith)

-- ---- how long each part is
pub repeated : (n x : ℕ) → length (replicate n x) ≡ n
repeated n x = length-replicate n x

pub length-rates : (rate : ℤ) → length (long_term_rates rate) ≡ 4 * ages
length-rates rate = length-entries (rate-entry rate) 4 (rate-width rate) 20 ages

pub length-age-periods : length age_periods ≡ ages
length-age-periods = length-entries period-entry 1 period-width 20 ages

pub length-proportions : (form : Form) (n : ℕ) → length (proportions form n) ≡ width_of (proportion_of form) * n
length-proportions form n = length-entries (proportion-entry form) (width_of (proportion_of form)) (proportion-width form) 0 n

-- ---- the whole

module _ (form : Form) (run : List ℕ) (long : length run ≡ run_length form) where
  pub length-kept : length (take (4 * birth_years) (drop (birth_year_initial_rates_at form) run)) ≡ 4 * birth_years
  length-kept = rw (length-take, length-drop) (omega (arith, fields-inside form))

  pub length_front : length (take age_long_term_rates_at run) ≡ age_long_term_rates_at
  length_front = length-take-le age_long_term_rates_at run (omega (arith, run-low form))

  module _ (out a b c d : List ℕ) (room : run_length form ≤ length out) where
    pub ages-placed : (rate : ℤ) → a ≡ placed out 0 (take age_long_term_rates_at run) → b ≡ placed a age_long_term_rates_at (long_term_rates rate)
        → c ≡ placed b age_periods_at age_periods → d ≡ placed c age_proportions_at (proportions form ages) → d ≡ placed out 0 (ages_of form run rate)
    unfolding ages_of
    ages-placed rate =
        let p = length_front in
        let q = length-rates rate in
        let t = length-age-periods in
        let s = length-proportions form ages in
        four out a b c d 0 age_long_term_rates_at age_periods_at age_proportions_at (take age_long_term_rates_at run) (long_term_rates rate) age_periods
        (proportions form ages) (omega arith) (omega arith) (omega arith) (omega (arith, fields-inside form))

    pub birth-years-placed : (last : List ℕ) → a ≡ placed out (birth_year_initial_rates_at form) (take (4 * birth_years) (drop (birth_year_initial_rates_at form) run))
        → b ≡ placed a (birth_year_long_term_rates_at form) (replicate (4 * birth_years) 0)
        → c ≡ placed b (birth_year_periods_at form) birth_year_periods → d ≡ placed c (birth_year_proportions_at form) (proportions form birth_years)
        → last ≡ placed d (fields_end form) (replicate (run_length form - fields_end form) 0)
        → last ≡ placed out (birth_year_initial_rates_at form) (birth_years_of form run)
    unfolding birth_years_of
    birth-years-placed last e f g h i =
        let kept = take (4 * birth_years) (drop (birth_year_initial_rates_at form) run) in
        let zeros = replicate {A = ℕ} (4 * birth_years) 0 in
        let fields = kept ++ zeros ++ birth_year_periods ++ proportions form birth_years in
        let p = length-kept in
        let q = repeated (4 * birth_years) 0 in
        let t = repeated birth_years birth_year_period in
        let s = length-proportions form birth_years in
        let n : length fields ≡ fields_end form - birth_year_initial_rates_at form = simp (length-append, p, q, t, s) (omega arith) in
        let inside = fields-inside form in
        let before =
        four out a b c d
        (birth_year_initial_rates_at form) (birth_year_long_term_rates_at form) (birth_year_periods_at form) (birth_year_proportions_at form)
        kept zeros birth_year_periods (proportions form birth_years)
        (omega arith) (omega arith) (omega arith) (omega arith) e f g h in
        i ∙ then out (birth_year_initial_rates_at form) fields (omega arith) d before (fields_end form) _ (omega arith)

  module _ (rate : ℤ) where
    pub length-ages : length (ages_of form run rate) ≡ birth_year_initial_rates_at form
    unfolding ages_of
    length-ages = simp (length-append, length_front, length-rates rate, length-age-periods, length-proportions form ages)

    pub length-birth-years : birth_year_initial_rates_at form + length (birth_years_of form run) ≡ run_length form
    unfolding birth_years_of
    length-birth-years =
        simp (length-append, length-kept, repeated, length-proportions form birth_years) (omega (arith, fields-inside form))

    pub length-short-form : form_of_run (length run) ≡ form → length (short_form_of run rate) ≡ run_length form
    unfolding short_form_of
    length-short-form e = rw (e, length-append, length-ages) length-birth-years

    pub short-form-placed : (out a b : List ℕ) → form_of_run (length run) ≡ form → run_length form ≤ length out → a ≡ placed out 0 (ages_of form run rate)
        → b ≡ placed a (birth_year_initial_rates_at form) (birth_years_of form run)
        → b ≡ placed out 0 (short_form_of run rate)
    unfolding short_form_of
    short-form-placed out a b e room f g =
        let n = length-ages in
        rw e (g ∙ then out 0 (ages_of form run rate) (omega (arith, fields-inside form)) a f (birth_year_initial_rates_at form) (birth_years_of form run) (omega arith))
