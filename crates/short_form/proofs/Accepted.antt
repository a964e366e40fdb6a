-- The short form of an accepted run differs from it only in long-term rates, T and P, is itself accepted, and keeps its run's form.
-- Assumes nothing.
use mathlib.Core.Path.{◌≡◌, refl, sym, ap, ◌∙◌}
use mathlib.Core.List.{List}
use Prim.Native.Nat.{ℕ, ◌+◌, ◌*◌, ◌≤◌, ◌<◌}
use native.Mathlib.Omega.{arith}
use lib.ListN.{length, take}
use lib.Seq.{ext_get_or, get_or-take, length-take-le}
use lib.IntN.{ℤ, pos, nat_abs}
use Rattle.layout.specs.Layout.{Form, run_length, form_of_run, ages, birth_years, rate_limit}
use Rattle.layout.specs.Layout.{foundation_at, base_at, addition_at, discount_at, base_rates_at}
use Rattle.layout.specs.Layout.{age_initial_rates_at}
use Rattle.layout.proofs.EachForm.{run-low, of-run}
use Rattle.little_endian.specs.Bytes.{signed32}
use Rattle.basis.specs.Basis.{Basis, basis_of, age_place, birth_year_place, age_terms_at, birth_year_terms_at, ConvergenceLimits, Limited, Accepted}
use Rattle.basis.proofs.Places.{age-place, age-place-inside, birth-year-place-inside}
use Rattle.run_check.proofs.Acceptance.{passes}
use Rattle.short_form.specs.ShortForm.{long_term_of, age_period_of, short_terms, short_form_of, Shortened, ShortFormStands}
use Rattle.short_form.proofs.Checking.{within-limits}
use Rattle.short_form.proofs.LongTerm.{long-term-size}
use Rattle.short_form.proofs.PeriodByAge.{age-period-size}
use Rattle.short_form.proofs.Placing.{length-short-form}
use Rattle.short_form.proofs.Reading.{front_kept, half-kept, word_kept, last-zero, age-rate, age-period, age-proportion}
use Rattle.short_form.proofs.Reading.{birth-initial, birth-rate, birth-period, birth-proportion}

-- ---- a run of a form, with an S that 32 bits hold
module _ (run : List ℕ) (rate : ℤ) (form : Form) (e : form_of_run (length run) ≡ form) (long : length run ≡ run_length form) where
  short-length : length (short_form_of run rate) ≡ run_length form
  short-length = length-short-form form run long rate e

  -- the form that its length tells is its run's
  short-of : form_of_run (length (short_form_of run rate)) ≡ form
  short-of = of-run form (length (short_form_of run rate)) short-length

  module _ (h : nat_abs rate < 2_147_483_648) where
    age-terms : (i : ℕ) → i < ages
        → age_terms_at form (short_form_of run rate) i ≡ short_terms (age_terms_at form run i).initial (long_term_of rate (20 + i)) (age_period_of (20 + i))
    age-terms i l =
        rw (word_kept run rate form e long (age_initial_rates_at + 4 * i) (omega arith), age-rate run rate form e long i l h)
        (rw (age-period run rate form e long i l, age-proportion run rate form e long i l) refl)

    birth-year-terms : (i : ℕ) → i < birth_years
        → birth_year_terms_at form (short_form_of run rate) i ≡ short_terms (birth_year_terms_at form run i).initial (pos 0) 20
    birth-year-terms i l =
        rw (birth-initial run rate form e long i l, birth-rate run rate form e long i l)
        (rw (birth-period run rate form e long i l, birth-proportion run rate form e long i l) refl)

    shortened : Shortened (basis_of run) rate (basis_of (short_form_of run rate))
    unfolding basis_of
    shortened =
        record {
          foundation = half-kept run rate form e long foundation_at (omega arith);
          base = half-kept run rate form e long base_at (omega arith);
          addition = ap signed32 (word_kept run rate form e long addition_at (omega arith));
          discount = ap signed32 (word_kept run rate form e long discount_at (omega arith));
          base_rate = λ age l m. word_kept run rate form e long (base_rates_at + 4 * age_place age) (omega (arith, age-place-inside age));
          by_age = λ age l m.
              let p : 20 + age_place age ≡ age = ap (λ (i : ℕ). 20 + i) (age-place age m) ∙ omega arith in
              rw short-of (rw p at (age-terms (age_place age) (age-place-inside age)));
          by_birth_year = λ year l m. rw (short-of, e) (birth-year-terms (birth_year_place year) (birth-year-place-inside year));
        }

-- ---- it is accepted: what stands where the run has its mark, its zero bytes and its fields is within their limits
terms-limited : (initial long : ℤ) (period : ℕ) → nat_abs initial ≤ rate_limit → nat_abs long ≤ rate_limit → (5 ≤ period) × (period ≤ 20)
    → ConvergenceLimits (short_terms initial long period)
terms-limited initial long period i j p = record { initial = i; long = j; period_low = omega arith; period_high = omega arith; remaining = omega arith }

limited : (b short : Basis) (rate : ℤ) → Shortened b rate short → Limited b → nat_abs rate ≤ rate_limit → Limited short
limited b short rate s l h =
    record {
      foundation_low = rw s.foundation l.foundation_low;
      foundation_high = rw s.foundation l.foundation_high;
      base_low = rw s.base l.base_low;
      base_high = rw s.base l.base_high;
      addition = rw s.addition l.addition;
      discount_low = rw s.discount l.discount_low;
      discount_high = rw s.discount l.discount_high;
      base_rate = λ age p q. rw (s.base_rate age p q) (l.base_rate age p q);
      by_age = λ age p q. rw (s.by_age age p q) (terms-limited _ _ (age_period_of age) (l.by_age age p q).initial (long-term-size rate age rate_limit h) (age-period-size age));
      by_birth_year = λ year p q. rw (s.by_birth_year year p q) (terms-limited _ _ 20 (l.by_birth_year year p q).initial (omega arith) (omega arith, omega arith));
    }

module _ (run : List ℕ) (rate : ℤ) (a : Accepted run) (h : nat_abs rate ≤ rate_limit) (form : Form) (e : form_of_run (length run) ≡ form)
    (long : length run ≡ run_length form) where
  front : take 4 (short_form_of run rate) ≡ take 4 run
  front =
      let n = short-length run rate form e long in
      let p : length (take 4 (short_form_of run rate)) ≡ 4 = length-take-le 4 (short_form_of run rate) (omega (arith, run-low form)) in
      let q : length (take 4 run) ≡ 4 = length-take-le 4 run (omega (arith, run-low form)) in
      ext_get_or 0 (take 4 (short_form_of run rate)) (take 4 run) (p ∙ sym q)
      (λ i l. get_or-take 4 (short_form_of run rate) i 0 (omega arith) ∙ front_kept run rate form e long i (omega arith) ∙ sym (get_or-take 4 run i 0 (omega arith)))

  short-form-accepted : Accepted (short_form_of run rate)
  short-form-accepted =
      let n = short-length run rate form e long in
      let f = short-of run rate form e long in
      record {
        size = rw f n;
        mark = rw f (front ∙ rw e at a.mark);
        zeros = λ at l m. front_kept run rate form e long at (omega arith) ∙ a.zeros at l m;
        last_zeros = λ at l m. last-zero run rate form e long at (rw f at l) (omega arith);
        limits = limited (basis_of run) _ rate (shortened run rate form e long (omega arith)) a.limits h;
      }

-- ---- where the short form's check passes
pub short-form-stands : (run : List ℕ) (rate : ℤ) → ShortFormStands run rate
short-form-stands run rate =
    record {
      differs = λ c. let p = within-limits run rate c in shortened run rate (form_of_run (length run)) refl p.0.size (omega (arith, p.1));
      accepted = λ c.
          let p = within-limits run rate c in
          passes _ (short-form-accepted run rate p.0 (omega (arith, p.1)) (form_of_run (length run)) refl p.0.size);
      form = λ c.
          let p = within-limits run rate c in
          short-length run rate (form_of_run (length run)) refl p.0.size ∙ sym p.0.size;
    }
