-- The basis that a data run stands for, and its limits (01, "The basis file").
use Rattle.std.specs.Prelude.{ℕ, ◌-◌, ◌≤◌, ◌<◌, min, ◌≡◌, List, length, take, ℤ, pos, nat_abs, ◌+ℤ◌, ◌≤ℤ◌}
use Rattle.arithmetic.specs.Fraction.{U}
use Rattle.little_endian.specs.Bytes.{byte_at, u16_at, i32_at}
use Rattle.layout.specs.declared.Number.TheVariants.{Byte, Word, SignedWord}
use Rattle.layout.specs.Layout.{Form, entry_at, proportion_at, form_of_run, run_length, fields_end, mark_of, ages, birth_years}
use Rattle.layout.specs.Layout.{foundation_at, base_at, addition_at, discount_at, zeros_at, base_rates_at}
use Rattle.layout.specs.Layout.{age_initial_rates_at, age_long_term_rates_at, age_periods_at, age_proportions_at}
use Rattle.layout.specs.Layout.{birth_year_initial_rates_at, birth_year_long_term_rates_at, birth_year_periods_at, birth_year_proportions_at}
use Rattle.layout.specs.Layout.{earliest_year, last_foundation_year, last_base_year, addition_limit, least_discount, greatest_discount}
use Rattle.layout.specs.Layout.{rate_limit, longest_period, greatest_proportion}
use Rattle.basis.specs.declared.Convergence.{Convergence}

-- F, B, the constant addition, the rate of discount, the base rates by age, the terms of improvement by age and by birth year, and the
-- actual improvements by age and year (02, change 2)
pub record Basis : Type 0 where
  pub foundation : ℕ
  pub base : ℕ
  pub addition : ℤ
  pub discount : ℤ
  pub base_rate : ℕ → ℕ
  pub by_age : ℕ → Convergence
  pub by_birth_year : ℕ → Convergence
  pub actual : ℕ → ℕ → ℤ

-- where an age from 20 to 150, or a birth year from 1842 to 2110, stands in its tables. No answer reads any other; they count as the
-- first or the last there, so that a basis holds what its tables hold and nothing else
abbrev pub age_place : ℕ → ℕ
age_place age = min (age - 20) (ages - 1)

abbrev pub birth_year_place : ℕ → ℕ
birth_year_place year = min (year - 1842) (birth_years - 1)

-- I, L, T and P at one place of four tables; the P of a basis is in hundredths of a per cent, whatever its form counts in (02, change 7)
abbrev pub terms_at : Form → List ℕ → ℕ → ℕ → ℕ → ℕ → ℕ → Convergence
terms_at form run initial long period remaining place =
    record {
      initial = entry_at SignedWord run initial place;
      long = entry_at SignedWord run long place;
      period = nat_abs (entry_at Byte run period place);
      remaining = proportion_at form run remaining place;
    }

-- by age, and by birth year
abbrev pub age_terms_at : Form → List ℕ → ℕ → Convergence
age_terms_at form run place = terms_at form run age_initial_rates_at age_long_term_rates_at age_periods_at age_proportions_at place

abbrev pub birth_year_terms_at : Form → List ℕ → ℕ → Convergence
birth_year_terms_at form run place =
    terms_at form run
    (birth_year_initial_rates_at form) (birth_year_long_term_rates_at form) (birth_year_periods_at form) (birth_year_proportions_at form) place

-- the fields by their offsets in the form that the run's length tells; a data run by itself has no actual improvements
unfoldable pub basis_of : List ℕ → Basis
basis_of run =
    record {
      foundation = u16_at run foundation_at;
      base = u16_at run base_at;
      addition = i32_at run addition_at;
      discount = i32_at run discount_at;
      base_rate = λ age. nat_abs (entry_at Word run base_rates_at (age_place age));
      by_age = λ age. age_terms_at (form_of_run (length run)) run (age_place age);
      by_birth_year = λ year. birth_year_terms_at (form_of_run (length run)) run (birth_year_place year);
      actual = λ age year. pos 0;
    }

-- U + rate of discount, which no rate within its limits takes below zero
unfoldable pub accumulation_of : Basis → ℕ
accumulation_of b = nat_abs (pos U +ℤ b.discount)

-- the first year that has a rate, and what is built on rates: B
unfoldable pub rated_from : Basis → ℕ
rated_from b = b.base

-- ---- the limits
pub record ConvergenceLimits (c : Convergence) : Type 0 where
  pub initial : nat_abs c.initial ≤ rate_limit
  pub long : nat_abs c.long ≤ rate_limit
  pub period_low : 1 ≤ c.period
  pub period_high : c.period ≤ longest_period
  pub remaining : c.remaining ≤ greatest_proportion

pub record Limited (b : Basis) : Type 0 where
  pub foundation_low : earliest_year ≤ b.foundation
  pub foundation_high : b.foundation ≤ last_foundation_year
  pub base_low : earliest_year ≤ b.base
  pub base_high : b.base ≤ last_base_year
  pub addition : nat_abs b.addition ≤ addition_limit
  pub discount_low : least_discount ≤ℤ b.discount
  pub discount_high : b.discount ≤ℤ greatest_discount
  pub base_rate : (age : ℕ) → 20 ≤ age → age ≤ 150 → b.base_rate age ≤ U
  pub by_age : (age : ℕ) → 20 ≤ age → age ≤ 150 → ConvergenceLimits (b.by_age age)
  pub by_birth_year : (year : ℕ) → 1842 ≤ year → year ≤ 2110 → ConvergenceLimits (b.by_birth_year year)

-- what 1, 4 and 5 do not refuse: the length of its form, the form's mark, the zero bytes, and the limits
pub record Accepted (run : List ℕ) : Type 0 where
  pub size : length run ≡ run_length (form_of_run (length run))
  pub mark : take 4 run ≡ mark_of (form_of_run (length run))
  pub zeros : (at : ℕ) → zeros_at ≤ at → at < base_rates_at → byte_at run at ≡ 0
  pub last_zeros : (at : ℕ) → fields_end (form_of_run (length run)) ≤ at → at < length run → byte_at run at ≡ 0
  pub limits : Limited (basis_of run)
